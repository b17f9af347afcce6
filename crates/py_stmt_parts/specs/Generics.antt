-- The defaults that a type-parameter scope is handed, and the flags of what is made with type parameters.
use Rattle.std.specs.Prelude.{ℕ, ◌+◌, List, [], ◌∷◌, ◌++◌, Bool, true, false, ◌||◌, codes}
use Rattle.py_tree.specs.Tree as tree
use Rattle.py_name_uses.specs.Parts.{has_default}
use Rattle.py_expr_scopes.specs.declared.functions.Defaults.{Defaults}
use Rattle.py_expr_scopes.specs.Functions.{flag_if}

-- which defaults parameters have
abbrev pub defaults_of : tree.Arguments → Defaults
defaults_of (tree.arguments posonly args vararg kwonly kwarg) = record { positional = has_default posonly || has_default args; keyword = has_default kwonly }

-- a name, where it is handed
abbrev pub name_if : (name : List ℕ) → Bool → List (List ℕ)
name_if name false = []
name_if name true = name ∷ []

-- the names under which a type-parameter scope has these defaults
abbrev pub handed_by : Defaults → List (List ℕ)
handed_by d = name_if (codes ".defaults") d.positional ++ name_if (codes ".kwdefaults") d.keyword

-- the flags of a function that is made with these defaults, and with type parameters or without
abbrev pub given_flags : Defaults → (generic : Bool) → ℕ
given_flags d generic = flag_if 0x10 generic + (flag_if 0x08 d.positional + flag_if 0x04 d.keyword)

-- the flag of what is made with type parameters
abbrev pub params_flag : tree.TypeParams → ℕ
params_flag tree.no_type_params = 0
params_flag (tree.more_type_params t ts) = 0x10
