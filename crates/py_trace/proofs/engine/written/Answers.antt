use Rattle.py_trace.proofs.engine.written.Goals as goal

pub returns-in-Err-write_all-clause-err : goal.returns-in-Err-write_all-clause-err
returns-in-Err-write_all-clause-err g c = rw c.in-Usage.is (rw c.as_bytes-in-Usage.ensures.value at c.in-Err-write_all.ensures.front)
