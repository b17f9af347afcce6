use Rattle.codegen.proofs.compile.compile_program.Goals as goal

pub compile_checked-requires : goal.compile_checked-requires
compile_checked-requires c = c.body_fault-fault.ensures
