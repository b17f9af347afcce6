-- A stack cut to a height.
use Rattle.std.proofs.Common.{◌≡◌, ◌<◌, ◌≤◌, ◌-◌, ℕ, List, length, drop, Option, true, false, ap, ◌∙◌}
use Rattle.std.specs.Prelude.{nat_le, Ok}
use Rattle.std.proofs.lemmas.Bool.{le-leb, lt-leb}
use Rattle.std.proofs.lemmas.List.{length-map, drop-map}
use Rattle.py_bytecode.specs.Values.{Value, World, Wrong, choose}
use Rattle.py_bytecode.specs.Machine.{Block}
use Rattle.py_answers.specs.Told.{Known}
use Rattle.py_step_decode.specs.declared.instructions.Entry.{Entry as Entry1}
use Rattle.py_step_decode.specs.Instructions.{entry_of}
use Rattle.py_step_machine.specs.State.{State, state, fails, machine_stack}
use Rattle.py_step_machine.specs.Leaving.{cut_stack}

module _ (h : ℕ) (es : List Entry1) (bs : List (Block Known ℕ)) (slot : Option (Value Known)) (w : World Known) where
  abbrev Z : State
  Z = state (machine_stack es) bs slot w

  stack_cut_long : length (machine_stack es) ≡ length es
  stack_cut_long = length-map es entry_of

  -- a height above the present one
  pub cut_above : length es < h → cut_stack h (state (machine_stack es) bs slot w) ≡ fails Wrong (state (machine_stack es) bs slot w)
  unfolding cut_stack
  cut_above l =
      let no : nat_le h (length (machine_stack es)) ≡ false = lt-leb h (length (machine_stack es)) (rw stack_cut_long l) in
      ap (λ b. choose b (Ok (tt, record Z { stack = drop (length (machine_stack es) - h) (machine_stack es) })) (fails Wrong Z)) no

  -- one that is not
  pub cut_within : h ≤ length es → cut_stack h (state (machine_stack es) bs slot w) ≡ Ok (tt, state (machine_stack (drop (length es - h) es)) bs slot w)
  unfolding cut_stack
  cut_within l =
      let yes : nat_le h (length (machine_stack es)) ≡ true = le-leb h (length (machine_stack es)) (rw stack_cut_long l) in
      ap (λ b. choose b (Ok (tt, record Z { stack = drop (length (machine_stack es) - h) (machine_stack es) })) (fails Wrong Z)) yes
      ∙ ap (λ n. Ok (tt, record Z { stack = drop (n - h) (machine_stack es) })) stack_cut_long
      ∙ ap (λ x. Ok (tt, record Z { stack = x })) (drop-map entry_of (length es - h) es)
