-- What stands at a unit, from what is read there and what it is.
use Rattle.std.proofs.Common.{◌≡◌, ℕ, length, Option, Some, None, refl, sym, ap, ◌∙◌}
use Rattle.py_bytecode.specs.Objects.{Object, head}
use Rattle.py_bytecode.specs.Decode as decode
use Rattle.py_bytecode.specs.Decode.{tables}
use Rattle.py_bytecode.specs.Machine.{Instr, Fetched, Found, Nothing}
use Rattle.py_bytecode.specs.Units.{Read, place_in, fetch_of_read, fetch_of_instr}
use Rattle.py_answers.specs.Told.{Known}
use Rattle.py_step_decode.specs.Short.{short_found}
use Rattle.py_decode.specs.Reading.{read_at}
use Rattle.py_step_machine.specs.Running.{fetch}
use Rattle.py_step_machine.specs.Short.{short_fetched}

-- an instruction and the place after it, where there is one
abbrev found_short : Option (Instr Known ℕ) → ℕ → Fetched Known ℕ
found_short None next = Nothing
found_short (Some i) next = Found i next

fetch_found_is : (i : Option (Instr Object ℕ)) (next : ℕ) → short_fetched (fetch_of_instr i next) ≡ found_short (short_found i) next
fetch_found_is None next = refl
fetch_found_is (Some i) next = refl

module _ (o : Object) (place : ℕ) where
  -- what is made of what is read
  abbrev pub fetch_made : Read → Option (Instr Known ℕ)
  fetch_made r = short_found (decode.instr_of (tables o) (place_in (length (head o).instructions) r.operand) r.op r.operand)

  fetched_read : (x : Option Read) → read_at o place ≡ x → short_fetched (fetch o place) ≡ short_fetched (fetch_of_read (tables o) (length (head o).instructions) x)
  fetched_read x e = ap (λ y. short_fetched (fetch_of_read (tables o) (length (head o).instructions) y)) e

  pub nothing_read : None ≡ read_at o place → Nothing ≡ short_fetched (fetch o place)
  nothing_read e = sym (fetched_read None (sym e))

  pub nothing_made : (r : Read) → Some r ≡ read_at o place → None ≡ fetch_made r → Nothing ≡ short_fetched (fetch o place)
  nothing_made r e m = sym (fetched_read (Some r) (sym e) ∙ fetch_found_is _ r.next ∙ ap (λ i. found_short i r.next) (sym m))

  pub one_made : (r : Read) (i : Instr Known ℕ) → Some r ≡ read_at o place → Some i ≡ fetch_made r → Found i r.next ≡ short_fetched (fetch o place)
  one_made r i e m = sym (fetched_read (Some r) (sym e) ∙ fetch_found_is _ r.next ∙ ap (λ i. found_short i r.next) (sym m))
