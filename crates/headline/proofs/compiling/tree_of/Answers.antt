use Rattle.std.proofs.Common.{length, nat_lt, ◌^◌, Err, codes, if◌then◌else◌, subst, sym}
use Rattle.py_rows_law.proofs.FormatLemmas.{rows_tree_is}
use Rattle.headline.specs.Headline.{or_text}
use Rattle.headline.specs.Steps.{ReadsTree}
use Rattle.headline.proofs.compiling.tree_of.Goals as goal

pub returns : goal.returns
returns c =
    let rows = c.args.rows.now in
    subst (λ x. ReadsTree (if nat_lt (length rows) (2 ^ 26) then or_text x else Err (codes "too long")) c.read_tree.result) (sym (rows_tree_is rows)) c.read_tree.ensures
