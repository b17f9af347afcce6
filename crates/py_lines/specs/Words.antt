-- The words for modes and levels.
use Rattle.std.specs.Prelude.{ℕ, List, Option, Some, None, if◌then◌else◌, codes}
use Rattle.std.specs.Str.{bytes_eq}
use Rattle.py_tree.specs.declared.modules.Mode.{Mode}
use Rattle.py_tree.specs.declared.modules.Mode.TheVariants.{Exec, Eval, Single, BlockExpr}

-- the mode that a word says
abbrev pub mode_of : List ℕ → Option Mode
mode_of word =
    if bytes_eq word (codes "exec") then Some Exec else
    (if bytes_eq word (codes "eval") then Some Eval else
    (if bytes_eq word (codes "single") then Some Single else
    (if bytes_eq word (codes "block") then Some BlockExpr else None)))

-- the level that a word says
abbrev pub level_of : List ℕ → Option ℕ
level_of word =
    if bytes_eq word (codes "0") then Some 0 else
    (if bytes_eq word (codes "1") then Some 1 else
    (if bytes_eq word (codes "2") then Some 2 else None))
