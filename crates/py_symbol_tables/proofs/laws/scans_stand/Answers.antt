use Rattle.py_symbol_tables.proofs.EnteredScopeLemmas.{scans_stand, values_stand}
use Rattle.py_symbol_tables.proofs.laws.scans_stand.Goals as goal

pub returns : goal.returns
returns c = record { programs = scans_stand; values = values_stand }
