-- An expression and its return begin with the move to its location: it does not matter who moves there first.
use Rattle.std.proofs.Common.{◌≡◌, refl}
use Rattle.py_tree.specs.Tree as tree
use Rattle.py_emission_parts.specs.Running.{run}
use Rattle.py_emission_parts.specs.Emitting.{State, with_location, move}
use Rattle.py_emission.specs.Emission.{emission, emission_of_return}

pub entering : (e : tree.Expr) (s : State) → run (emission e) s ≡ run (emission e) (with_location (tree.expr_location e) s)
unfolding move with_location
entering (tree.BoolOp at op values) s = refl
entering (tree.NamedExpr at target value) s = refl
entering (tree.BinOp at left op right) s = refl
entering (tree.UnaryOp at op operand) s = refl
entering (tree.Lambda at params body) s = refl
entering (tree.IfExp at test body orelse) s = refl
entering (tree.Dict at keys values) s = refl
entering (tree.Set at elts) s = refl
entering (tree.ListComp at elt clauses) s = refl
entering (tree.SetComp at elt clauses) s = refl
entering (tree.DictComp at key value clauses) s = refl
entering (tree.GeneratorExp at elt clauses) s = refl
entering (tree.Await at value) s = refl
entering (tree.Yield at value) s = refl
entering (tree.YieldFrom at value) s = refl
entering (tree.Compare at left ops comparators) s = refl
entering (tree.Call at func args named) s = refl
entering (tree.FormattedValue at value conversion format_spec) s = refl
entering (tree.JoinedStr at values) s = refl
entering (tree.Constant at value) s = refl
entering (tree.Attribute at value attr) s = refl
entering (tree.Subscript at value slice) s = refl
entering (tree.Starred at value) s = refl
entering (tree.Name at id) s = refl
entering (tree.List at elts) s = refl
entering (tree.Tuple at elts) s = refl
entering (tree.Slice at lower upper step) s = refl

pub entering_return : (e : tree.Expr) (s : State) → run (emission_of_return e) s ≡ run (emission_of_return e) (with_location (tree.expr_location e) s)
unfolding move with_location
entering_return (tree.BoolOp at op values) s = refl
entering_return (tree.NamedExpr at target value) s = refl
entering_return (tree.BinOp at left op right) s = refl
entering_return (tree.UnaryOp at op operand) s = refl
entering_return (tree.Lambda at params body) s = refl
entering_return (tree.IfExp at test body orelse) s = refl
entering_return (tree.Dict at keys values) s = refl
entering_return (tree.Set at elts) s = refl
entering_return (tree.ListComp at elt clauses) s = refl
entering_return (tree.SetComp at elt clauses) s = refl
entering_return (tree.DictComp at key value clauses) s = refl
entering_return (tree.GeneratorExp at elt clauses) s = refl
entering_return (tree.Await at value) s = refl
entering_return (tree.Yield at value) s = refl
entering_return (tree.YieldFrom at value) s = refl
entering_return (tree.Compare at left ops comparators) s = refl
entering_return (tree.Call at func args named) s = refl
entering_return (tree.FormattedValue at value conversion format_spec) s = refl
entering_return (tree.JoinedStr at values) s = refl
entering_return (tree.Constant at value) s = refl
entering_return (tree.Attribute at value attr) s = refl
entering_return (tree.Subscript at value slice) s = refl
entering_return (tree.Starred at value) s = refl
entering_return (tree.Name at id) s = refl
entering_return (tree.List at elts) s = refl
entering_return (tree.Tuple at elts) s = refl
entering_return (tree.Slice at lower upper step) s = refl
