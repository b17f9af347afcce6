use Rattle.std.proofs.Common.{sym, ◌∙◌, arith}
use Rattle.py_scope.proofs.marks.+mark_from.Goals as goal
use Rattle.py_scope.proofs.MarkLemmas.{found_past, marked_past, clear_past}

-- src/marks.rt:64:1
pub returns-in_ok-pass_on-in-Past-clause-found : goal.returns-in_ok-pass_on-in-Past-clause-found
returns-in_ok-pass_on-in-Past-clause-found t c =
    found_past c.args.rows.now.items c.mark_from.new.rows.items c.args.name.now c.args.at c.index.result.now c.index-in-Past.result.now c.look_in.result c.in_ok-found-in-Past.found
    c.requires.numbered c.requires.within (omega arith) c.index.ensures c.look_in.ensures c.in-Past.is c.index-in-Past.ensures c.in_ok-found-in-Past.ensures.found c.in_ok-found-in-Past.ensures.marked

pub returns-in_ok-pass_on-in-Past-clause-marked : goal.returns-in_ok-pass_on-in-Past-clause-marked
returns-in_ok-pass_on-in-Past-clause-marked t c =
    marked_past c.args.rows.now.items c.mark_from.new.rows.items c.args.name.now c.args.at c.index.result.now c.index-in-Past.result.now c.look_in.result c.in_ok-found-in-Past.found
    c.requires.numbered c.requires.within (omega arith) c.index.ensures c.look_in.ensures c.in-Past.is c.index-in-Past.ensures c.in_ok-found-in-Past.ensures.found c.in_ok-found-in-Past.ensures.marked
    c.index_mut-then-is_free.result.now c.pass_on.new.row (sym c.is_free.ensures ∙ c.if-is_free.true) c.index_mut-then-is_free.ensures.value c.in_ok-pass_on-in-Past.ensures

pub returns-else-is_free-clause-found : goal.returns-else-is_free-clause-found
returns-else-is_free-clause-found t c =
    found_past c.args.rows.now.items c.mark_from.new.rows.items c.args.name.now c.args.at c.index.result.now c.index-in-Past.result.now c.look_in.result c.in_ok-found-in-Past.found
    c.requires.numbered c.requires.within (omega arith) c.index.ensures c.look_in.ensures c.in-Past.is c.index-in-Past.ensures c.in_ok-found-in-Past.ensures.found c.in_ok-found-in-Past.ensures.marked

pub returns-else-is_free-clause-marked : goal.returns-else-is_free-clause-marked
returns-else-is_free-clause-marked t c =
    clear_past c.args.rows.now.items c.mark_from.new.rows.items c.args.name.now c.args.at c.index.result.now c.index-in-Past.result.now c.look_in.result c.in_ok-found-in-Past.found
    c.requires.numbered c.requires.within (omega arith) c.index.ensures c.look_in.ensures c.in-Past.is c.index-in-Past.ensures c.in_ok-found-in-Past.ensures.found c.in_ok-found-in-Past.ensures.marked
    (sym c.is_free.ensures ∙ c.if-is_free.false)
