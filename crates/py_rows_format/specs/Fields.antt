-- What an entry of a row says, and what it is in the tree.
use Rattle.std.specs.Prelude.{ℕ, ◌+◌, ◌*◌, ◌^◌, ◌==◌, nat_lt, ℤ, pos, neg_ℤ, Bool, List, [], ◌∷◌, position, Option, Some, None, option_and_then, option_map, if◌then◌else◌, codes}
use Rattle.std.specs.Str.{bytes_eq}
use Rattle.serde_json.specs.Data.{Data, Items, null, number, no_items, item, unsigned}
use Rattle.serde_json.specs.Find.{as_array, as_bool, as_number, as_str, as_u64}
use Rattle.py_base.specs.Literal.{Literal, Literals, no_literals, more_literals}
use Rattle.py_base.specs.declared.operators.BoolOp.{BoolOp}
use Rattle.py_base.specs.declared.operators.BoolOp.TheVariants as joining
use Rattle.py_base.specs.declared.operators.Operator.{Operator}
use Rattle.py_base.specs.declared.operators.Operator.TheVariants as binary
use Rattle.py_base.specs.declared.operators.UnaryOp.{UnaryOp}
use Rattle.py_base.specs.declared.operators.UnaryOp.TheVariants as unary
use Rattle.py_base.specs.declared.operators.CmpOp.{CmpOp}
use Rattle.py_base.specs.declared.operators.CmpOp.TheVariants as comparing
use Rattle.py_base.specs.declared.operators.ConversionFlag.{ConversionFlag}
use Rattle.py_base.specs.declared.operators.ConversionFlag.TheVariants as converting
use Rattle.py_tree.specs.Tree as tree
use Rattle.py_tree.specs.declared.statements.Alias.{Alias as Imported}

infixl 10 ◌>>=◌
abbrev pub ◌>>=◌ : {A B : Type 0} → Option A → (A → Option B) → Option B
None >>= f = None
(Some x) >>= f = f x

-- ---- the nodes of a tree, in fourteen sorts

pub data Sort : Type 0 where
  Mod Stmt Expr Constant Arguments ArgWithDefault Arg Keyword Alias WithItem ExceptHandler Comprehension MatchCase TypeParam : Sort

abbrev pub Node : Sort → Type 0
Node Sort.Mod = tree.Mod
Node Sort.Stmt = tree.Stmt
Node Sort.Expr = tree.Expr
Node Sort.Constant = Literal
Node Sort.Arguments = tree.Arguments
Node Sort.ArgWithDefault = tree.Arg × tree.OptExpr
Node Sort.Arg = tree.Arg
Node Sort.Keyword = Option (List ℕ) × tree.Expr
Node Sort.Alias = Imported
Node Sort.WithItem = tree.Expr × tree.OptExpr
Node Sort.ExceptHandler = tree.OptExpr × Option (List ℕ) × tree.Stmts
Node Sort.Comprehension = tree.Expr × tree.Expr × tree.Exprs × Bool
Node Sort.MatchCase = tree.Stmts
Node Sort.TypeParam = tree.TypeParam

-- a node that may be missing, and several nodes
abbrev pub Optional : Sort → Type 0
Optional Sort.Expr = tree.OptExpr
Optional Sort.Arg = tree.OptArg
Optional s = Option (Node s)

abbrev pub Several : Sort → Type 0
Several Sort.Stmt = tree.Stmts
Several Sort.Expr = tree.Exprs
Several Sort.Constant = Literals
Several Sort.ArgWithDefault = tree.Args
Several Sort.Keyword = tree.Keywords
Several Sort.WithItem = tree.WithItems
Several Sort.ExceptHandler = tree.Handlers
Several Sort.Comprehension = tree.Generators
Several Sort.MatchCase = tree.Cases
Several Sort.TypeParam = tree.TypeParams
Several s = List (Node s)

abbrev pub optional : (s : Sort) → Option (Node s) → Optional s
optional Sort.Expr None = tree.no_expr
optional Sort.Expr (Some x) = tree.some_expr x
optional Sort.Arg None = tree.no_arg
optional Sort.Arg (Some x) = tree.some_arg x
optional s x = x

-- the last first: what is at the end, with one more before it
abbrev right : {A B : Type 0} → B → (A → B → B) → List A → B
right end more [] = end
right end more (x ∷ xs) = more x (right end more xs)

abbrev pub several : (s : Sort) → List (Node s) → Several s
several Sort.Stmt = right tree.no_stmts tree.more_stmts
several Sort.Expr = right tree.no_exprs tree.more_exprs
several Sort.Constant = right no_literals more_literals
several Sort.ArgWithDefault = right tree.no_args (λ x. tree.more_args x.0 x.1)
several Sort.Keyword = right tree.no_keywords (λ x. tree.more_keywords x.0 x.1)
several Sort.WithItem = right tree.no_items (λ x. tree.more_items x.0 x.1)
several Sort.ExceptHandler = right tree.no_handlers (λ x. tree.more_handlers x.0 x.1 x.2)
several Sort.Comprehension = right tree.no_generators (λ x. tree.more_generators x.0 x.1 x.2 x.3)
several Sort.MatchCase = right tree.no_cases tree.more_cases
several Sort.TypeParam = right tree.no_type_params tree.more_type_params
several s = λ xs. xs

-- ---- operators, by their names

pub data Operators : Type 0 where
  Joining Binary Unary Comparing Converting : Operators

abbrev pub OperatorOf : Operators → Type 0
OperatorOf Operators.Joining = BoolOp
OperatorOf Operators.Binary = Operator
OperatorOf Operators.Unary = UnaryOp
OperatorOf Operators.Comparing = CmpOp
OperatorOf Operators.Converting = ConversionFlag

abbrev pub operators : (o : Operators) → List (List ℕ × OperatorOf o)
operators Operators.Joining = (codes "And", joining.And) ∷ (codes "Or", joining.Or) ∷ []
operators Operators.Binary =
    (codes "Add", binary.Add) ∷ (codes "Sub", binary.Sub) ∷ (codes "Mult", binary.Mult)
    ∷ (codes "MatMult", binary.MatMult) ∷ (codes "Div", binary.Div) ∷ (codes "FloorDiv", binary.FloorDiv)
    ∷ (codes "Mod", binary.Mod) ∷ (codes "Pow", binary.Pow) ∷ (codes "LShift", binary.LShift)
    ∷ (codes "RShift", binary.RShift) ∷ (codes "BitOr", binary.BitOr) ∷ (codes "BitXor", binary.BitXor)
    ∷ (codes "BitAnd", binary.BitAnd) ∷ []
operators Operators.Unary =
    (codes "Invert", unary.Invert) ∷ (codes "Not", unary.Not) ∷ (codes "UAdd", unary.UAdd)
    ∷ (codes "USub", unary.USub) ∷ []
operators Operators.Comparing =
    (codes "Eq", comparing.Eq) ∷ (codes "NotEq", comparing.NotEq) ∷ (codes "Lt", comparing.Lt)
    ∷ (codes "LtE", comparing.LtE) ∷ (codes "Gt", comparing.Gt) ∷ (codes "GtE", comparing.GtE)
    ∷ (codes "Is", comparing.Is) ∷ (codes "IsNot", comparing.IsNot) ∷ (codes "In", comparing.In)
    ∷ (codes "NotIn", comparing.NotIn) ∷ []
operators Operators.Converting =
    (codes "None", converting.None) ∷ (codes "Str", converting.Str) ∷ (codes "Ascii", converting.Ascii)
    ∷ (codes "Repr", converting.Repr) ∷ []

-- what stands beside a word
abbrev pub look_up : {A : Type 0} → List (List ℕ × A) → List ℕ → Option A
look_up [] word = None
look_up (entry ∷ entries) word = if bytes_eq word entry.0 then Some entry.1 else look_up entries word

-- ---- fields

-- a text; true or false; a whole number below 2^32; an integer, or bytes, as a text; the name of an
-- operator; the number of a row of a sort
pub data Letter : Type 0 where
  text truth small integer bytes : Letter
  operator : Operators → Letter
  node : Sort → Letter

-- a field has one, one or null, an array of them, or an array of expressions and nulls
pub data Field : Type 0 where
  one maybe many : Letter → Field
  keys : Field

-- what an entry says
abbrev pub Entry : Letter → Type 0
Entry text = List ℕ
Entry truth = Bool
Entry small = ℕ
Entry integer = ℤ
Entry bytes = List ℕ
Entry (operator o) = OperatorOf o
Entry (node s) = ℕ

abbrev pub Content : Field → Type 0
Content (one l) = Entry l
Content (maybe l) = Option (Entry l)
Content (many l) = List (Entry l)
Content keys = List (Option ℕ)

-- what the tree has there
abbrev pub Value : Letter → Type 0
Value (node s) = Node s
Value l = Entry l

abbrev pub FieldValue : Field → Type 0
FieldValue (one l) = Value l
FieldValue (maybe (node s)) = Optional s
FieldValue (maybe l) = Option (Value l)
FieldValue (many (node s)) = Several s
FieldValue (many l) = List (Value l)
FieldValue keys = tree.OptExprs

-- ---- reading entries. None is where an entry has not its form

-- a whole number from low on and below high, in digits alone. The reading of JSON has a number of 2^64 or
-- more as a float
abbrev pub whole_in : ℕ → ℕ → Data → Option ℕ
whole_in low high (number (unsigned n)) =
    if nat_lt n low then None else (if nat_lt n high then Some n else None)
whole_in low high d = None

-- n, and decimal digits after it
abbrev pub more_digits : ℕ → List ℕ → Option ℕ
more_digits n [] = Some n
more_digits n (c ∷ cs) = position (λ d. d == c) (codes "0123456789") >>= λ k. more_digits (n * 10 + k) cs

-- one or more decimal digits
abbrev pub digits : List ℕ → Option ℕ
digits [] = None
digits (c ∷ cs) = more_digits 0 (c ∷ cs)

-- a minus or none, and one or more decimal digits
abbrev pub integer_of : List ℕ → Option ℤ
integer_of [] = None
integer_of (c ∷ cs) =
    if c == 45 then option_map (λ n. neg_ℤ (pos n)) (digits cs) else option_map pos (digits (c ∷ cs))

abbrev pub hexadecimal_digit : ℕ → Option ℕ
hexadecimal_digit c = position (λ d. d == c) (codes "0123456789abcdef")

-- two lower-case hexadecimal digits for each byte
abbrev pub bytes_of : List ℕ → Option (List ℕ)
bytes_of [] = Some []
bytes_of (c ∷ []) = None
bytes_of (c ∷ d ∷ rest) =
    hexadecimal_digit c >>= λ high. hexadecimal_digit d >>= λ low.
    option_map (λ more. (high * 16 + low) ∷ more) (bytes_of rest)

abbrev pub entry_of : (l : Letter) → Data → Option (Entry l)
entry_of text d = as_str d
entry_of truth d = as_bool d
entry_of small d = whole_in 0 (2 ^ 32) d
entry_of integer d = as_str d >>= integer_of
entry_of bytes d = as_str d >>= bytes_of
entry_of (operator o) d = as_str d >>= look_up (operators o)
entry_of (node s) d = option_and_then as_u64 (as_number d)

abbrev pub each_of : {A : Type 0} → (Data → Option A) → Items → Option (List A)
each_of f no_items = Some []
each_of f (item d ds) = f d >>= λ x. option_map (λ xs. x ∷ xs) (each_of f ds)

abbrev pub or_null : {A : Type 0} → (Data → Option A) → Data → Option (Option A)
or_null f null = Some None
or_null f d = option_map Some (f d)

abbrev pub content_of : (f : Field) → Data → Option (Content f)
content_of (one l) d = entry_of l d
content_of (maybe l) d = or_null (entry_of l) d
content_of (many l) d = as_array d >>= each_of (entry_of l)
content_of keys d = as_array d >>= each_of (or_null (entry_of (node Sort.Expr)))

-- just these fields, in their order
abbrev pub Contents : List Field → Type 0
Contents [] = Unit {0}
Contents (f ∷ fs) = Content f × Contents fs

abbrev pub contents_of : (fs : List Field) → Items → Option (Contents fs)
contents_of [] no_items = Some tt
contents_of [] (item d ds) = None
contents_of (f ∷ fs) no_items = None
contents_of (f ∷ fs) (item d ds) = content_of f d >>= λ x. option_map (λ xs. (x, xs)) (contents_of fs ds)
