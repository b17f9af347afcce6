use Rattle.py_scope_proof.proofs.NodeScopes.OwnerTables.{table_has_owners}
use Rattle.py_scope_proof.proofs.laws_of_scans.table_has_owners.Goals as goal

pub returns : goal.returns
returns c = table_has_owners
