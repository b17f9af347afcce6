-- Texts of worked annotations, by computation.
use Rattle.std.proofs.Common.{◌≡◌, [], ◌∷◌, true, false, None, Some, codes, refl}
use Rattle.py_base.specs.Literal as literal
use Rattle.py_base.specs.declared.location.SourceLocation.{SourceLocation}
use Rattle.py_base.specs.declared.operators.BoolOp.TheVariants as boolean
use Rattle.py_base.specs.declared.operators.Operator.TheVariants as binary
use Rattle.py_base.specs.declared.operators.UnaryOp.TheVariants as unary
use Rattle.py_base.specs.declared.operators.CmpOp.TheVariants as comparison
use Rattle.py_tree.specs.Tree as tree
use Rattle.py_annotation_text.specs.Annotation.{annotation}

abbrev sample_at : SourceLocation
sample_at = record { row = 1; column = 1 }

abbrev a : tree.Expr
a = tree.Name sample_at (codes "a")

abbrev b : tree.Expr
b = tree.Name sample_at (codes "b")

abbrev c : tree.Expr
c = tree.Name sample_at (codes "c")

abbrev d : tree.Expr
d = tree.Name sample_at (codes "d")

abbrev e : tree.Expr
e = tree.Name sample_at (codes "e")

abbrev f : tree.Expr
f = tree.Name sample_at (codes "f")

abbrev g : tree.Expr
g = tree.Name sample_at (codes "g")

sample_name : annotation a ≡ Some (codes "a")
sample_name = refl

attribute : annotation (tree.Subscript sample_at (tree.Attribute sample_at a (codes "b")) c) ≡ Some (codes "a.b[c]")
attribute = refl

slices : annotation (tree.Subscript sample_at a (tree.Tuple sample_at (tree.more_exprs b (tree.more_exprs (tree.Slice sample_at (tree.some_expr c) (tree.some_expr d) tree.no_expr) tree.no_exprs)))) ≡ Some (codes "a[b, (c:d)]")
slices = refl

slice : annotation (tree.Subscript sample_at a (tree.Slice sample_at (tree.some_expr b) (tree.some_expr c) (tree.some_expr d))) ≡ Some (codes "a[b:c:d]")
slice = refl

whole_slice : annotation (tree.Subscript sample_at a (tree.Slice sample_at tree.no_expr tree.no_expr tree.no_expr)) ≡ Some (codes "a[:]")
whole_slice = refl

tuple_slice : annotation (tree.Subscript sample_at a (tree.Tuple sample_at (tree.more_exprs b (tree.more_exprs c tree.no_exprs)))) ≡ Some (codes "a[b, c]")
tuple_slice = refl

union : annotation (tree.BinOp sample_at (tree.BinOp sample_at a binary.BitOr b) binary.BitOr (tree.BinOp sample_at c binary.BitOr d)) ≡ Some (codes "a | b | (c | d)")
union = refl

sum : annotation (tree.BinOp sample_at a binary.Sub (tree.BinOp sample_at (tree.BinOp sample_at b binary.Add c) binary.Mult d)) ≡ Some (codes "a - (b + c) * d")
sum = refl

powers : annotation (tree.BinOp sample_at (tree.BinOp sample_at a binary.Pow b) binary.Pow (tree.BinOp sample_at c binary.Pow (tree.UnaryOp sample_at unary.USub d))) ≡ Some (codes "(a ** b) ** c ** -d")
powers = refl

signs : annotation (tree.BinOp sample_at (tree.UnaryOp sample_at unary.USub (tree.BinOp sample_at a binary.Pow c)) binary.Add (tree.UnaryOp sample_at unary.Invert b)) ≡ Some (codes "-a ** c + ~b")
signs = refl

booleans : annotation (tree.BoolOp sample_at boolean.And (tree.more_exprs (tree.BoolOp sample_at boolean.Or (tree.more_exprs a (tree.more_exprs b tree.no_exprs))) (tree.more_exprs (tree.UnaryOp sample_at unary.Not c) tree.no_exprs))) ≡ Some (codes "(a or b) and not c")
booleans = refl

comparisons : annotation (tree.Compare sample_at a (comparison.Lt ∷ comparison.IsNot ∷ comparison.NotIn ∷ []) (tree.more_exprs b (tree.more_exprs c (tree.more_exprs d tree.no_exprs)))) ≡ Some (codes "a < b is not c not in d")
comparisons = refl

compared : annotation (tree.Compare sample_at (tree.Compare sample_at a (comparison.Eq ∷ []) (tree.more_exprs b tree.no_exprs)) (comparison.Eq ∷ []) (tree.more_exprs c tree.no_exprs)) ≡ Some (codes "(a == b) == c")
compared = refl

conditional : annotation (tree.IfExp sample_at b a (tree.IfExp sample_at d c e)) ≡ Some (codes "a if b else c if d else e")
conditional = refl

conditional_test : annotation (tree.BoolOp sample_at boolean.Or (tree.more_exprs (tree.IfExp sample_at b a c) (tree.more_exprs d tree.no_exprs))) ≡ Some (codes "(a if b else c) or d")
conditional_test = refl

lambda_ : annotation (tree.Lambda sample_at (tree.arguments (tree.more_args (tree.arg sample_at (codes "a") tree.no_expr) tree.no_expr tree.no_args) (tree.more_args (tree.arg sample_at (codes "b") tree.no_expr) (tree.some_expr c) tree.no_args) (tree.some_arg (tree.arg sample_at (codes "c") tree.no_expr)) (tree.more_args (tree.arg sample_at (codes "d") tree.no_expr) tree.no_expr tree.no_args) (tree.some_arg (tree.arg sample_at (codes "e") tree.no_expr))) a) ≡ Some (codes "lambda a, /, b=c, *c, d, **e: a")
lambda_ = refl

lone_star : annotation (tree.Lambda sample_at (tree.arguments tree.no_args tree.no_args tree.no_arg (tree.more_args (tree.arg sample_at (codes "a") tree.no_expr) (tree.some_expr b) tree.no_args) tree.no_arg) c) ≡ Some (codes "lambda *, a=b: c")
lone_star = refl

plain_lambda : annotation (tree.Lambda sample_at (tree.arguments tree.no_args tree.no_args tree.no_arg tree.no_args tree.no_arg) (tree.Yield sample_at tree.no_expr)) ≡ Some (codes "lambda: (yield)")
plain_lambda = refl

call : annotation (tree.Call sample_at f (tree.more_exprs (tree.Starred sample_at a) (tree.more_exprs b tree.no_exprs)) (tree.more_keywords (Some (codes "k")) c (tree.more_keywords None d tree.no_keywords))) ≡ Some (codes "f(*a, b, k=c, **d)")
call = refl

sample_dict : annotation (tree.Dict sample_at (tree.more_opts (tree.some_expr a) (tree.more_opts tree.no_expr tree.no_opts)) (tree.more_exprs c (tree.more_exprs b tree.no_exprs))) ≡ Some (codes "{a: c, **b}")
sample_dict = refl

sets : annotation (tree.Set sample_at (tree.more_exprs a (tree.more_exprs b tree.no_exprs))) ≡ Some (codes "{a, b}")
sets = refl

lists : annotation (tree.List sample_at (tree.more_exprs a (tree.more_exprs (tree.Starred sample_at b) tree.no_exprs))) ≡ Some (codes "[a, *b]")
lists = refl

empty_tuple : annotation (tree.Tuple sample_at tree.no_exprs) ≡ Some (codes "()")
empty_tuple = refl

one_tuple : annotation (tree.Tuple sample_at (tree.more_exprs a tree.no_exprs)) ≡ Some (codes "(a,)")
one_tuple = refl

nested_tuple : annotation (tree.List sample_at (tree.more_exprs (tree.Tuple sample_at (tree.more_exprs a (tree.more_exprs b tree.no_exprs))) tree.no_exprs)) ≡ Some (codes "[(a, b)]")
nested_tuple = refl

sample_comprehension : annotation (tree.ListComp sample_at a (tree.more_generators (tree.Tuple sample_at (tree.more_exprs a (tree.more_exprs b tree.no_exprs))) c (tree.more_exprs d (tree.more_exprs e tree.no_exprs)) false (tree.more_generators f g tree.no_exprs false tree.no_generators))) ≡ Some (codes "[a for a, b in c if d if e for f in g]")
sample_comprehension = refl

set_comp : annotation (tree.SetComp sample_at a (tree.more_generators a b tree.no_exprs false tree.no_generators)) ≡ Some (codes "{a for a in b}")
set_comp = refl

dict_comp : annotation (tree.DictComp sample_at a b (tree.more_generators a c tree.no_exprs false tree.no_generators)) ≡ Some (codes "{a: b for a in c}")
dict_comp = refl

sample_generator : annotation (tree.GeneratorExp sample_at a (tree.more_generators a (tree.IfExp sample_at c b d) tree.no_exprs false tree.no_generators)) ≡ Some (codes "(a for a in (b if c else d))")
sample_generator = refl

walrus : annotation (tree.NamedExpr sample_at a b) ≡ Some (codes "(a := b)")
walrus = refl

sample_yields : annotation (tree.Yield sample_at (tree.some_expr (tree.Tuple sample_at (tree.more_exprs a (tree.more_exprs b tree.no_exprs))))) ≡ Some (codes "(yield a, b)")
sample_yields = refl

yield_from : annotation (tree.YieldFrom sample_at a) ≡ Some (codes "(yield from a)")
yield_from = refl

constants : annotation (tree.Call sample_at f (tree.more_exprs (tree.Constant sample_at literal.None) (tree.more_exprs (tree.Constant sample_at (literal.Bool true)) (tree.more_exprs (tree.Constant sample_at (literal.Bool false)) (tree.more_exprs (tree.Constant sample_at literal.Ellipsis) tree.no_exprs)))) tree.no_keywords) ≡ Some (codes "f(None, True, False, ...)")
constants = refl

boolean_in_call : annotation (tree.Call sample_at f (tree.more_exprs (tree.BoolOp sample_at boolean.Or (tree.more_exprs a (tree.more_exprs b tree.no_exprs))) tree.no_exprs) tree.no_keywords) ≡ Some (codes "f(a or b)")
boolean_in_call = refl

-- a set without elements, which no source has
empty_set : annotation (tree.Set sample_at tree.no_exprs) ≡ Some (codes "{*()}")
empty_set = refl

-- a constant tuple, in which `...` has its name
constant_tuple : annotation (tree.Constant sample_at (literal.Tuple (literal.more_literals literal.Ellipsis literal.no_literals))) ≡ Some (codes "(Ellipsis,)")
constant_tuple = refl

-- what is awaited
awaits : annotation (tree.Attribute sample_at (tree.Await sample_at a) (codes "b")) ≡ Some (codes "(await a).b")
awaits = refl

-- an asynchronous clause
async_clause : annotation (tree.ListComp sample_at a (tree.more_generators a b tree.no_exprs true tree.no_generators)) ≡ Some (codes "[a async for a in b]")
async_clause = refl

-- an f-string, in an annotation of a parameter of a lambda too
f_string : annotation (tree.JoinedStr sample_at tree.no_exprs) ≡ None
f_string = refl

f_string_aside : annotation (tree.Lambda sample_at (tree.arguments tree.no_args tree.no_args (tree.some_arg (tree.arg sample_at (codes "a") (tree.some_expr (tree.JoinedStr sample_at tree.no_exprs)))) tree.no_args tree.no_arg) a) ≡ None
f_string_aside = refl
