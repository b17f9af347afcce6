-- The text of both runs.
use Rattle.std.specs.Prelude.{ℕ, List, ◌++◌, codes}
use Rattle.py_bytecode.specs.Values.{Ran}
use Rattle.py_answers.specs.Lines.{lines}
use Rattle.py_answers.specs.Told.{Known}

-- the lines of the code's run after the line `code`, and those of the tree's after the line `tree`
abbrev pub report_text : (code tree : Ran Known) → List ℕ
report_text code tree = codes "code\n" ++ lines code ++ codes "tree\n" ++ lines tree
