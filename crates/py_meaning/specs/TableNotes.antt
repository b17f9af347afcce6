-- The forms of annotations, and of those of functions.
use Rattle.std.specs.Prelude.{ℕ, ◌+◌, ◌++◌, List, [], ◌∷◌, Option, Some, None, codes, if◌then◌else◌}
use Rattle.py_tree.specs.Tree as tree
use Rattle.py_scope_counts.specs.Counts.{scopes_in_arg, scopes_in_notes, scopes_in_opt_arg, scopes_in_returns}
use Rattle.py_bytecode.specs.Objects as const
use Rattle.py_emission_parts.specs.Context.{Context, mangled_by}
use Rattle.py_annotation_text.specs.Annotation.{annotation}
use Rattle.py_control.specs.Form.{VForm, VConst}
use Rattle.py_meaning.specs.Table.{expr_form}

-- the text of an annotation that is postponed; nothing stands for one that has none, which is not compiled
abbrev pub text_form : Option (List ℕ) → VForm
text_form None = VConst const.none
text_form (Some text) = VConst (const.str text)

-- an annotation, or its text where annotations are postponed
abbrev pub note_form : Context → (next : ℕ) → tree.Expr → VForm
note_form c n e = if c.postponed then text_form (annotation e) else expr_form c n e

-- an annotation by its name, where there is one
abbrev pub opt_note : Context → (next : ℕ) → (name : List ℕ) → tree.OptExpr → List (List ℕ × VForm)
opt_note c n name tree.no_expr = []
opt_note c n name (tree.some_expr e) = (name, note_form c n e) ∷ []

-- the annotation of a parameter, under its mangled name
abbrev pub arg_note : Context → (next : ℕ) → tree.Arg → List (List ℕ × VForm)
arg_note c n (tree.arg at name annotation) = opt_note c n (mangled_by c name) annotation

-- that of a parameter that may be missing
abbrev pub opt_arg_note : Context → (next : ℕ) → tree.OptArg → List (List ℕ × VForm)
opt_arg_note c n tree.no_arg = []
opt_arg_note c n (tree.some_arg a) = arg_note c n a

-- those of some parameters
abbrev pub arg_notes : Context → (next : ℕ) → tree.Args → List (List ℕ × VForm)
arg_notes c n tree.no_args = []
arg_notes c n (tree.more_args a default rest) = arg_note c n a ++ arg_notes c (n + scopes_in_arg c.postponed a) rest

-- the number after the scopes of some annotations
abbrev pub past_notes : Context → ℕ → tree.Args → ℕ
past_notes c n args = n + scopes_in_notes c.postponed args

-- the number after the scopes of an annotation
abbrev pub past_opt_arg : Context → ℕ → tree.OptArg → ℕ
past_opt_arg c n a = n + scopes_in_opt_arg c.postponed a

-- positional-only, positional and keyword-only parameters, and then the two further ones
abbrev pub param_notes : Context → (next : ℕ) → tree.Arguments → List (List ℕ × VForm)
param_notes c n (tree.arguments posonly args vararg kwonly kwarg) =
    let a = past_notes c n posonly in let k = past_notes c a args in let v = past_notes c k kwonly in
    arg_notes c n posonly ++ (arg_notes c a args ++ (arg_notes c k kwonly ++ (opt_arg_note c v vararg ++ opt_arg_note c (past_opt_arg c v vararg) kwarg)))

-- the annotations of a function by name, that of what it returns first
abbrev pub note_forms : Context → (next : ℕ) → tree.Arguments → (returns : tree.OptExpr) → List (List ℕ × VForm)
note_forms c n params returns = opt_note c n (codes "return") returns ++ param_notes c (n + scopes_in_returns c.postponed returns) params
