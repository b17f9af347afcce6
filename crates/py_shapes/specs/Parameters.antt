-- What the parameters of one function are called, and which of them have defaults.
use Rattle.std.specs.Prelude.{ℕ, Bool, true, false, not, ◌||◌, ◌&&◌, List, [], ◌∷◌, ◌++◌, nat_eq, Option}
use Rattle.std.specs.Cmp.Lexicographic.{pointwise}
use Rattle.std.specs.List.{list_any}
use Rattle.py_base.specs.Mangle.{mangled_in}
use Rattle.py_tree.specs.Tree as tree

-- names as the class writes them
abbrev pub arg_name : (class : Option (List ℕ)) → tree.Arg → List ℕ
arg_name class (tree.arg at name annotation) = mangled_in class name

abbrev pub opt_arg_names : (class : Option (List ℕ)) → tree.OptArg → List (List ℕ)
opt_arg_names class tree.no_arg = []
opt_arg_names class (tree.some_arg a) = arg_name class a ∷ []

abbrev pub args_names : (class : Option (List ℕ)) → tree.Args → List (List ℕ)
args_names class tree.no_args = []
args_names class (tree.more_args a default others) = arg_name class a ∷ args_names class others

-- those of `*args` and `**kwargs`
abbrev pub end_names : (class : Option (List ℕ)) → tree.Arguments → List (List ℕ)
end_names class (tree.arguments posonlyargs args vararg kwonlyargs kwarg) = opt_arg_names class vararg ++ opt_arg_names class kwarg

abbrev pub parameter_names : (class : Option (List ℕ)) → tree.Arguments → List (List ℕ)
parameter_names class (tree.arguments posonlyargs args vararg kwonlyargs kwarg) =
    args_names class posonlyargs ++ (args_names class args ++ (args_names class kwonlyargs ++ end_names class (tree.arguments posonlyargs args vararg kwonlyargs kwarg)))

-- whether the name is one of these
abbrev pub among : List ℕ → List (List ℕ) → Bool
among name names = list_any (λ other. pointwise nat_eq name other) names

-- whether a name of the first is one of the second
abbrev pub names_meet : List (List ℕ) → List (List ℕ) → Bool
names_meet names others = list_any (λ name. among name others) names

-- whether a name stands twice
abbrev pub has_repeat : List (List ℕ) → Bool
has_repeat [] = false
has_repeat (name ∷ names) = among name names || has_repeat names

abbrev pub is_given : tree.OptExpr → Bool
is_given tree.no_expr = false
is_given (tree.some_expr e) = true

-- which parameters have a default
abbrev pub defaults : tree.Args → List Bool
defaults tree.no_args = []
defaults (tree.more_args a default others) = is_given default ∷ defaults others

-- whether one without a default stands after one that has it
abbrev pub has_disorder : List Bool → Bool
has_disorder [] = false
has_disorder (given ∷ others) = (given && list_any not others) || has_disorder others
