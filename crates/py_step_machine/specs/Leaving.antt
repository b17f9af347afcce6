-- How blocks are left, and what a step does with an instruction that leaves them.
use Rattle.std.specs.Prelude.{ℕ, ◌∷◌, ◌-◌, length, drop, Option, Some, None, Ok, Err, nat_le}
use Rattle.py_bytecode.specs.Values.{Value, It, choose, Outcome, Returned, RaisedOut, Wrong}
use Rattle.py_bytecode.specs.Machine.{Fetched, Found, Nothing, Reason, BreakTo, ContinueTo, ReturnOf, RaiseOf, Block, Loop, Except, Finally, ExceptHandler, FinallyHandler, slot_for, unwind}
use Rattle.py_answers.specs.Told.{Known}
use Rattle.py_step_machine.specs.State.{state, Did, Leaves, Ends, Run, Running, ◌>>=◌, fails, run_of_config}
use Rattle.py_step_machine.specs.Does.{does}

unfoldable pub unwind_run : Reason Known ℕ → Running ℕ
unwind_run r s = run_of_config (unwind r s.stack s.blocks s.slot s.world)

unfoldable pub cut_stack : ℕ → Running (Unit {0})
cut_stack h s = choose (nat_le h (length s.stack)) (Ok (tt, record s { stack = drop (length s.stack - h) s.stack })) (fails Wrong s)

-- a block is left: the place where it takes the reason, or None where the next block is left
unfoldable pub pass_block : ℕ → Running (Option ℕ)
pass_block h s = do
  u ← cut_stack h s
  Ok (None, u.1)

unfoldable pub leaving_loop : ℕ → Reason Known ℕ → Running (Option ℕ)
leaving_loop h (BreakTo p) s = do
  u ← cut_stack h s
  Ok (Some p, u.1)
leaving_loop h (ContinueTo p) s = Ok (Some p, record s { blocks = Loop h ∷ s.blocks })
leaving_loop h (ReturnOf e) s = pass_block h s
leaving_loop h (RaiseOf e) s = pass_block h s

unfoldable pub handle_at : ℕ → ℕ → Value Known → Running (Option ℕ)
handle_at h q e s = do
  u ← cut_stack h s
  Ok (Some q, state (It e ∷ u.1.stack) (ExceptHandler h u.1.slot ∷ u.1.blocks) (Some e) u.1.world)

abbrev pub leaving_except : ℕ → ℕ → Reason Known ℕ → Running (Option ℕ)
leaving_except h q (BreakTo p) s = pass_block h s
leaving_except h q (ContinueTo p) s = pass_block h s
leaving_except h q (ReturnOf e) s = pass_block h s
leaving_except h q (RaiseOf e) s = handle_at h q e s

unfoldable pub leaving_finally : ℕ → ℕ → Reason Known ℕ → Running (Option ℕ)
leaving_finally h q r s = do
  u ← cut_stack h s
  Ok (Some q, record u.1 { blocks = FinallyHandler h (Some r) u.1.slot ∷ u.1.blocks; slot = slot_for r u.1.slot })

unfoldable pub leaving_handler : ℕ → Option (Value Known) → Running (Option ℕ)
leaving_handler h old s = do
  u ← cut_stack h s
  Ok (None, record u.1 { slot = old })

abbrev pub leaving_block : Block Known ℕ → Reason Known ℕ → Running (Option ℕ)
leaving_block (Loop h) r s = leaving_loop h r s
leaving_block (Except h q) r s = leaving_except h q r s
leaving_block (Finally h q) r s = leaving_finally h q r s
leaving_block (ExceptHandler h old) r s = leaving_handler h old s
leaving_block (FinallyHandler h k old) r s = leaving_handler h old s

-- how a run ends where no block takes the reason
abbrev pub out_of : Reason Known ℕ → Outcome Known
out_of (BreakTo p) = Wrong
out_of (ContinueTo p) = Wrong
out_of (ReturnOf e) = Returned e
out_of (RaiseOf x) = RaisedOut x

-- ---- a step

-- where an instruction leaves blocks, they are left
abbrev pub settled_run : Did ℕ → Run ℕ
settled_run (Ok x) = Ok x
settled_run (Err (Leaves r s)) = unwind_run r s
settled_run (Err (Ends r)) = Err r

-- what stands at a place, done
abbrev pub step_fetched : Fetched Known ℕ → Running ℕ
step_fetched (Found i next) s = settled_run (does i next s)
step_fetched Nothing s = fails Wrong s

-- a state above the limit of height is wrong
abbrev pub keep_to_limit : ℕ → ℕ → Running ℕ
keep_to_limit h p s = choose (nat_le (length s.stack) h) (Ok (p, s)) (fails Wrong s)
