use Rattle.emit_vectors.proofs.tables.dropped.Given as goal

abbrev pub ghosts-drop_one : goal.ghosts-drop_one
ghosts-drop_one a = record { name = a.blank.name; parts = a.blank.parts }
