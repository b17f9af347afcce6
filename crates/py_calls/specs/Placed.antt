-- Nodes that stand where an emitter does: what is handed in without a place of its own.
use Rattle.py_tree.specs.Tree as tree
use Rattle.py_tree.specs.View.{expr_tree}
use Rattle.py_base.specs.declared.location.SourceLocation.{SourceLocation}
use Rattle.py_expr_scopes.specs.declared.comprehensions.ComprehensionElement.{ComprehensionElement}
use Rattle.py_expr_scopes.specs.declared.comprehensions.ComprehensionElement.TheVariants as element

-- these clauses around this element, as an expression that stands there
abbrev pub comprehension_at : SourceLocation → tree.Generators → ComprehensionElement → tree.Expr
comprehension_at at gs (element.List e) = tree.ListComp at (expr_tree e.now) gs
comprehension_at at gs (element.Set e) = tree.SetComp at (expr_tree e.now) gs
comprehension_at at gs (element.Dict k v) = tree.DictComp at (expr_tree k.now) (expr_tree v.now) gs
comprehension_at at gs (element.Generator e) = tree.GeneratorExp at (expr_tree e.now) gs

-- a target that is deleted, as the one of a statement that stands there
abbrev pub deletion_at : SourceLocation → tree.Expr → tree.Stmt
deletion_at at e = tree.Delete at (tree.more_exprs e tree.no_exprs)
