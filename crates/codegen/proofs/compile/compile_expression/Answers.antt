use Rattle.codegen.proofs.compile.compile_expression.Goals as goal

pub compile_checked-requires : goal.compile_checked-requires
compile_checked-requires c = c.expr_fault-fault.ensures
