use Rattle.std.proofs.Common.{refl, subst}
use Rattle.py_ir.specs.BlockList.{IsWhole}
use Rattle.py_ir.proofs.BlockPlacementLemmas.{block_placement_whole}
use Rattle.py_ir.proofs.flat.FlatBlocks.len.Goals as goal

pub returns-clause-whole : goal.returns-clause-whole
returns-clause-whole c = subst IsWhole c.self.view_is (block_placement_whole c.self.inside.items.items c.self.inside.spans.items c.self.inside.current.0 c.self.invariant c.self.inside.current refl)
