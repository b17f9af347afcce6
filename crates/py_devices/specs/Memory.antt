-- Sources and sinks in memory.
use Rattle.std.specs.Prelude.{ℕ, ◌+◌, ◌-◌, ◌^◌, ◌==◌, ◌||◌, Bool, min, List, ◌++◌, length, take, drop, if◌then◌else◌, nat_lt}
use Rattle.std.specs.List.{list_any}
use Rattle.py_devices.specs.declared.source.ReadAnswer.{ReadAnswer}
use Rattle.py_devices.specs.declared.source.ReadAnswer.TheVariants as read
use Rattle.py_devices.specs.declared.sink.WriteAnswer.{WriteAnswer}
use Rattle.py_devices.specs.declared.sink.WriteAnswer.TheVariants as write

-- the bytes left, the greatest piece, the numbers of the calls that fail, and the calls and the faults so far
pub record Feed : Type 0 where
  pub left : List ℕ
  pub piece : ℕ
  pub fails : List ℕ
  pub calls : ℕ
  pub faults : ℕ

abbrev pub count_on : ℕ → ℕ
count_on n = min (n + 1) (2 ^ 64 - 1)

abbrev pub feed_size : Feed → ℕ → ℕ
feed_size s room = min (min s.piece room) (length s.left)

abbrev pub read_of : Feed → ℕ → ReadAnswer
read_of s room = if list_any (λ x. x == count_on s.calls) s.fails then read.Failed else (if length s.left == 0 then read.End else read.Got (feed_size s room))

abbrev pub after_read : Feed → ℕ → Feed
after_read s room = if list_any (λ x. x == count_on s.calls) s.fails
    then record { left = s.left; piece = s.piece; fails = s.fails; calls = count_on s.calls; faults = count_on s.faults }
    else record { left = drop (feed_size s room) s.left; piece = s.piece; fails = s.fails; calls = count_on s.calls; faults = s.faults }

-- ---- sinks

-- the bytes held, the size of the buffer, and the rest as for a feed
pub record Store : Type 0 where
  pub held : List ℕ
  pub size : ℕ
  pub piece : ℕ
  pub fails : List ℕ
  pub calls : ℕ
  pub faults : ℕ

abbrev pub refuses : Store → ℕ → Bool
refuses s n = list_any (λ x. x == count_on s.calls) s.fails || nat_lt (s.size - length s.held) n

abbrev pub write_of : Store → ℕ → WriteAnswer
write_of s n = if refuses s n then write.Failed else write.Took (min s.piece n)

abbrev pub after_write : Store → List ℕ → Store
after_write s bytes = if refuses s (length bytes)
    then record { held = s.held; size = s.size; piece = s.piece; fails = s.fails; calls = count_on s.calls; faults = count_on s.faults }
    else record { held = s.held ++ take (min s.piece (length bytes)) bytes; size = s.size; piece = s.piece; fails = s.fails; calls = count_on s.calls; faults = s.faults }

-- the bytes held, what is left of the buffer, and the faults
pub record Shelf : Type 0 where
  pub held : List ℕ
  pub room : ℕ
  pub faults : ℕ

abbrev pub shelf_answer : Shelf → ℕ → WriteAnswer
shelf_answer s n = if nat_lt s.room n then write.Failed else write.Took n

abbrev pub after_put : Shelf → List ℕ → Shelf
after_put s bytes = if nat_lt s.room (length bytes)
    then record { held = s.held; room = s.room; faults = count_on s.faults }
    else record { held = s.held ++ bytes; room = s.room - length bytes; faults = s.faults }

-- ---- a source that never fails

abbrev pub clean_answer : List ℕ → ℕ → ReadAnswer
clean_answer left room = if length left == 0 then read.End else read.Got (min room (length left))

abbrev pub after_clean : List ℕ → ℕ → List ℕ
after_clean left room = drop (min room (length left)) left
