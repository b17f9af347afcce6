use Rattle.std.proofs.Common.{◌≡◌, drop}
use Rattle.std.specs.List.{list_all}
use Rattle.py_well_formed.specs.Tables.{is_entry}
use Rattle.py_well_formed.proofs.tables.are_all_entries.Given as goal

abbrev pub invariant-loop-entry : goal.invariant-loop-entry
invariant-loop-entry l = list_all (is_entry l.count) (drop l.entry-index l.entries) ≡ list_all (is_entry l.count) l.entries
