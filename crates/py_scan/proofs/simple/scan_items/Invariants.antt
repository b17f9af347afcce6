use Rattle.std.proofs.Common.{◌≡◌, drop}
use Rattle.py_tree.specs.View.{with_items}
use Rattle.py_name_uses.specs.Goes.{state}
use Rattle.py_scan.specs.Scan.{scan_items}
use Rattle.py_scan.proofs.simple.scan_items.Given as goal

abbrev pub invariant-loop-item : goal.invariant-loop-item
invariant-loop-item l = scan_items (with_items l.items) (state l.initial.scan) ≡ scan_items (with_items (drop l.item-index l.items)) (state l.scan)
