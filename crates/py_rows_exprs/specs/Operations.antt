-- Operations, comparisons, conditionals and calls.
use Rattle.std.specs.Prelude.{ℕ, Ok}
use Rattle.serde_json.specs.Data.{Items}
use Rattle.py_base.specs.declared.location.SourceLocation.{SourceLocation}
use Rattle.py_tree.specs.Tree as tree
use Rattle.py_rows_fields.specs.Fields.{one, three, two}
use Rattle.py_rows_fields.specs.Operators.{bool_operator_at, comparisons_at, operator_at, unary_operator_at}
use Rattle.py_rows_fields.specs.Gives.{◌>>=◌}
use Rattle.py_rows_slots.specs.Nodes.{Nodes}
use Rattle.py_rows_slots.specs.Slots.{Made, take_arguments, take_expr, take_exprs, take_keywords, take_optional_expr}

abbrev pub bool_op_node : ℕ → SourceLocation → Items → Nodes → Made tree.Expr
bool_op_node n at fields nodes = two n fields >>= λ (op, values).
    bool_operator_at n op >>= λ op. take_exprs n values nodes >>= λ (values, nodes).
    Ok (tree.BoolOp at op values, nodes)

abbrev pub named_expr_node : ℕ → SourceLocation → Items → Nodes → Made tree.Expr
named_expr_node n at fields nodes = two n fields >>= λ (target, value).
    take_expr n target nodes >>= λ (target, nodes). take_expr n value nodes >>= λ (value, nodes).
    Ok (tree.NamedExpr at target value, nodes)

abbrev pub bin_op_node : ℕ → SourceLocation → Items → Nodes → Made tree.Expr
bin_op_node n at fields nodes = three n fields >>= λ (left, op, right).
    take_expr n left nodes >>= λ (left, nodes). operator_at n op >>= λ op. take_expr n right nodes >>= λ (right, nodes).
    Ok (tree.BinOp at left op right, nodes)

abbrev pub unary_op_node : ℕ → SourceLocation → Items → Nodes → Made tree.Expr
unary_op_node n at fields nodes = two n fields >>= λ (op, operand).
    unary_operator_at n op >>= λ op. take_expr n operand nodes >>= λ (operand, nodes).
    Ok (tree.UnaryOp at op operand, nodes)

abbrev pub if_exp_node : ℕ → SourceLocation → Items → Nodes → Made tree.Expr
if_exp_node n at fields nodes = three n fields >>= λ (test, body, orelse).
    take_expr n test nodes >>= λ (test, nodes). take_expr n body nodes >>= λ (body, nodes). take_expr n orelse nodes >>= λ (orelse, nodes).
    Ok (tree.IfExp at test body orelse, nodes)

abbrev pub compare_node : ℕ → SourceLocation → Items → Nodes → Made tree.Expr
compare_node n at fields nodes = three n fields >>= λ (left, ops, comparators).
    take_expr n left nodes >>= λ (left, nodes). comparisons_at n ops >>= λ ops. take_exprs n comparators nodes >>= λ (comparators, nodes).
    Ok (tree.Compare at left ops comparators, nodes)

abbrev pub call_node : ℕ → SourceLocation → Items → Nodes → Made tree.Expr
call_node n at fields nodes = three n fields >>= λ (func, args, keywords).
    take_expr n func nodes >>= λ (func, nodes). take_exprs n args nodes >>= λ (args, nodes). take_keywords n keywords nodes >>= λ (keywords, nodes).
    Ok (tree.Call at func args keywords, nodes)

abbrev pub lambda_node : ℕ → SourceLocation → Items → Nodes → Made tree.Expr
lambda_node n at fields nodes = two n fields >>= λ (args, body).
    take_arguments n args nodes >>= λ (args, nodes). take_expr n body nodes >>= λ (body, nodes).
    Ok (tree.Lambda at args body, nodes)

abbrev pub yield_node : ℕ → SourceLocation → Items → Nodes → Made tree.Expr
yield_node n at fields nodes = one n fields >>= λ field.
    take_optional_expr n field nodes >>= λ (value, nodes).
    Ok (tree.Yield at value, nodes)

abbrev pub operand : ℕ → Items → Nodes → Made tree.Expr
operand n fields nodes = one n fields >>= λ field.
    take_expr n field nodes >>= λ (value, nodes).
    Ok (value, nodes)

abbrev pub await_node : ℕ → SourceLocation → Items → Nodes → Made tree.Expr
await_node n at fields nodes = operand n fields nodes >>= λ (value, nodes). Ok (tree.Await at value, nodes)

abbrev pub yield_from_node : ℕ → SourceLocation → Items → Nodes → Made tree.Expr
yield_from_node n at fields nodes = operand n fields nodes >>= λ (value, nodes). Ok (tree.YieldFrom at value, nodes)

abbrev pub starred_node : ℕ → SourceLocation → Items → Nodes → Made tree.Expr
starred_node n at fields nodes = operand n fields nodes >>= λ (value, nodes). Ok (tree.Starred at value, nodes)
