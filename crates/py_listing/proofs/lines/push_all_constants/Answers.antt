use Rattle.std.proofs.Common.{◌++◌, codes, string_bytes}
use Rattle.py_listing.specs.Listing.{joined_constants}
use Rattle.py_bytecode.specs.View.{constants_of}
use Rattle.py_listing.proofs.ConstantListLemmas.{then_append}
use Rattle.py_listing.proofs.lines.push_all_constants.Goals as goal

pub returns : goal.returns
returns c =
    let old = string_bytes c.args.out.now in
    let all = joined_constants (constants_of c.args.constants.now) in
    then_append old (codes "constants: " ++ all) (codes "\n") _ _ (then_append old (codes "constants: ") all _ _ c.in_ok-push_text.ensures c.in_ok-push_joined.ensures) c.in_ok-push_text-2.ensures
