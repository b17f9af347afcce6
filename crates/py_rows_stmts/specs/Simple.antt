-- Statements that hold no others.
use Rattle.std.specs.Prelude.{ℕ, Ok, Result}
use Rattle.serde_json.specs.Data.{Items}
use Rattle.py_base.specs.declared.location.SourceLocation.{SourceLocation}
use Rattle.py_tree.specs.Tree as tree
use Rattle.py_rows_fields.specs.declared.error.RowsError.{RowsError}
use Rattle.py_rows_fields.specs.Fields.{boolean_at, four, level_at, no_field, one, optional_text_at, texts_at, three, two}
use Rattle.py_rows_fields.specs.Operators.{operator_at}
use Rattle.py_rows_fields.specs.Gives.{◌>>=◌}
use Rattle.py_rows_slots.specs.Nodes.{Nodes}
use Rattle.py_rows_slots.specs.Slots.{Made, take_aliases, take_expr, take_exprs, take_optional_expr, take_type_params}

abbrev pub return_node : ℕ → SourceLocation → Items → Nodes → Made tree.Stmt
return_node n at fields nodes = one n fields >>= λ field.
    take_optional_expr n field nodes >>= λ (value, nodes).
    Ok (tree.Return at value, nodes)

abbrev pub delete_node : ℕ → SourceLocation → Items → Nodes → Made tree.Stmt
delete_node n at fields nodes = one n fields >>= λ field.
    take_exprs n field nodes >>= λ (targets, nodes).
    Ok (tree.Delete at targets, nodes)

abbrev pub assign_node : ℕ → SourceLocation → Items → Nodes → Made tree.Stmt
assign_node n at fields nodes = two n fields >>= λ (targets, value).
    take_exprs n targets nodes >>= λ (targets, nodes). take_expr n value nodes >>= λ (value, nodes).
    Ok (tree.Assign at targets value, nodes)

abbrev pub type_alias_node : ℕ → SourceLocation → Items → Nodes → Made tree.Stmt
type_alias_node n at fields nodes = three n fields >>= λ (name, type_params, value).
    take_expr n name nodes >>= λ (name, nodes). take_type_params n type_params nodes >>= λ (type_params, nodes). take_expr n value nodes >>= λ (value, nodes).
    Ok (tree.TypeAlias at name type_params value, nodes)

abbrev pub aug_assign_node : ℕ → SourceLocation → Items → Nodes → Made tree.Stmt
aug_assign_node n at fields nodes = three n fields >>= λ (target, op, value).
    take_expr n target nodes >>= λ (target, nodes). operator_at n op >>= λ op. take_expr n value nodes >>= λ (value, nodes).
    Ok (tree.AugAssign at target op value, nodes)

abbrev pub ann_assign_node : ℕ → SourceLocation → Items → Nodes → Made tree.Stmt
ann_assign_node n at fields nodes = four n fields >>= λ (target, annotation, value, simple).
    take_expr n target nodes >>= λ (target, nodes). take_expr n annotation nodes >>= λ (annotation, nodes). take_optional_expr n value nodes >>= λ (value, nodes). boolean_at n simple >>= λ simple.
    Ok (tree.AnnAssign at target annotation value simple, nodes)

abbrev pub raise_node : ℕ → SourceLocation → Items → Nodes → Made tree.Stmt
raise_node n at fields nodes = two n fields >>= λ (exc, cause).
    take_optional_expr n exc nodes >>= λ (exc, nodes). take_optional_expr n cause nodes >>= λ (cause, nodes).
    Ok (tree.Raise at exc cause, nodes)

abbrev pub assert_node : ℕ → SourceLocation → Items → Nodes → Made tree.Stmt
assert_node n at fields nodes = two n fields >>= λ (test, msg).
    take_expr n test nodes >>= λ (test, nodes). take_optional_expr n msg nodes >>= λ (msg, nodes).
    Ok (tree.Assert at test msg, nodes)

abbrev pub import_node : ℕ → SourceLocation → Items → Nodes → Made tree.Stmt
import_node n at fields nodes = one n fields >>= λ field.
    take_aliases n field nodes >>= λ (names, nodes).
    Ok (tree.Import at names, nodes)

abbrev pub import_from_node : ℕ → SourceLocation → Items → Nodes → Made tree.Stmt
import_from_node n at fields nodes = three n fields >>= λ («module», names, level_field).
    optional_text_at n «module» >>= λ «module». take_aliases n names nodes >>= λ (names, nodes). level_at n level_field >>= λ level.
    Ok (tree.ImportFrom at «module» names level, nodes)

abbrev pub global_node : ℕ → SourceLocation → Items → Result tree.Stmt RowsError
global_node n at fields = one n fields >>= λ field.
    texts_at n field >>= λ names.
    Ok (tree.Global at names)

abbrev pub nonlocal_node : ℕ → SourceLocation → Items → Result tree.Stmt RowsError
nonlocal_node n at fields = one n fields >>= λ field.
    texts_at n field >>= λ names.
    Ok (tree.Nonlocal at names)

abbrev pub expr_stmt_node : ℕ → SourceLocation → Items → Nodes → Made tree.Stmt
expr_stmt_node n at fields nodes = one n fields >>= λ field.
    take_expr n field nodes >>= λ (value, nodes).
    Ok (tree.StmtExpr at value, nodes)

abbrev pub pass_node : ℕ → SourceLocation → Items → Result tree.Stmt RowsError
pass_node n at fields = no_field n fields >>= λ _.
    Ok (tree.Pass at)

abbrev pub break_node : ℕ → SourceLocation → Items → Result tree.Stmt RowsError
break_node n at fields = no_field n fields >>= λ _.
    Ok (tree.Break at)

abbrev pub continue_node : ℕ → SourceLocation → Items → Result tree.Stmt RowsError
continue_node n at fields = no_field n fields >>= λ _.
    Ok (tree.Continue at)
