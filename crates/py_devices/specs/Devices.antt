-- What a call of a source and of a sink does.
use Rattle.std.specs.Prelude.{◌≡◌, ℕ, ◌+◌, ◌-◌, ◌^◌, ◌<◌, ◌≤◌, min, Bool, false, IsTrue, List, length, take, drop, Option, Some, None}
use Rattle.std.specs.Io.KnownBytes.{Keeps, Appends, Consumes, IsAtEnd}
use Rattle.py_devices.specs.declared.source.ReadAnswer.{ReadAnswer}
use Rattle.py_devices.specs.declared.source.ReadAnswer.TheVariants as read
use Rattle.py_devices.specs.declared.sink.WriteAnswer.{WriteAnswer}
use Rattle.py_devices.specs.declared.sink.WriteAnswer.TheVariants as write

-- the count went up, or stands at its last value
abbrev pub Rose : ℕ → ℕ → Type 0
Rose before now = min (before + 1) (2 ^ 64 - 1) ≤ now

-- ---- sources

-- n bytes came, which stand at the front of the buffer, or none are left
abbrev pub ReadGives : Option (List ℕ) → Option (List ℕ) → ReadAnswer → List ℕ → Type 0
ReadGives old new (read.Got n) buf = (n ≤ length buf) × Consumes old new (take n buf) × (n ≡ 0 → IsAtEnd new)
ReadGives old new read.End buf = Keeps old new × IsAtEnd new
ReadGives old new read.Failed buf = Keeps old new

-- the count never falls, and a failed call has raised it
abbrev pub ReadCounts : ℕ → ℕ → ReadAnswer → Type 0
ReadCounts before now (read.Got n) = before ≤ now
ReadCounts before now read.End = before ≤ now
ReadCounts before now read.Failed = (before ≤ now) × Rose before now

-- a source that counts failed calls alone keeps its count in every other call
abbrev pub ReadKeepsCount : Bool → ℕ → ℕ → ReadAnswer → Type 0
ReadKeepsCount alone before now (read.Got n) = IsTrue alone → now ≡ before
ReadKeepsCount alone before now read.End = IsTrue alone → now ≡ before
ReadKeepsCount alone before now read.Failed = Unit {0}

abbrev pub GaveBytes : ReadAnswer → Type 0
GaveBytes (read.Got n) = 0 < n
GaveBytes read.End = ⊥
GaveBytes read.Failed = ⊥

-- a read of a source that has not ended is not late, and the source goes on where bytes came
abbrev pub ReadsInTime : Bool → Bool → ℕ → ℕ → ReadAnswer → Type 0
ReadsInTime ended_before ended_now before now answer = ended_before ≡ false → (now ≡ before) × (GaveBytes answer → ended_now ≡ false)

-- ---- sinks

-- the first n bytes were taken
abbrev pub WriteTakes : Option (List ℕ) → Option (List ℕ) → WriteAnswer → List ℕ → Type 0
WriteTakes old new (write.Took n) bytes = (n ≤ length bytes) × Appends old new (take n bytes)
WriteTakes old new write.Failed bytes = Keeps old new

-- the count never falls, and a call that failed, or took nothing of some bytes, has raised it
abbrev pub WriteCounts : ℕ → ℕ → WriteAnswer → List ℕ → Type 0
WriteCounts before now (write.Took n) bytes = (before ≤ now) × (n ≡ 0 → 0 < length bytes → Rose before now)
WriteCounts before now write.Failed bytes = (before ≤ now) × Rose before now

-- a sink that counts failed calls alone keeps its count where it took something, or had nothing to take
abbrev pub WriteKeepsCount : Bool → ℕ → ℕ → WriteAnswer → List ℕ → Type 0
WriteKeepsCount alone before now (write.Took n) bytes = IsTrue alone → min 1 (length bytes) ≤ n → now ≡ before
WriteKeepsCount alone before now write.Failed bytes = Unit {0}

abbrev pub bytes_taken : WriteAnswer → ℕ
bytes_taken (write.Took n) = n
bytes_taken write.Failed = 0

-- a write that is handed all that is awaited is not partial, and what it did not take is awaited further
abbrev pub WritesWhole : (awaited_before awaited_now : Option (List ℕ)) → (before now : ℕ) → WriteAnswer → List ℕ → Type 0
WritesWhole awaited_before awaited_now before now answer bytes = awaited_before ≡ Some bytes → (now ≡ before) × (awaited_now ≡ Some (drop (bytes_taken answer) bytes))

-- a said room goes down by what was taken; where it holds the bytes, some of them are taken and no fault is counted
abbrev pub HasRoomIn : ℕ → Option ℕ → ℕ → ℕ → WriteAnswer → List ℕ → Type 0
HasRoomIn room (Some left) before now (write.Took n) bytes = (left + n ≡ room) × (length bytes ≤ room → (now ≡ before) × (0 < length bytes → 0 < n))
HasRoomIn room (Some left) before now write.Failed bytes = room < length bytes
HasRoomIn room None before now answer bytes = ⊥

abbrev pub HasRoom : Option ℕ → Option ℕ → ℕ → ℕ → WriteAnswer → List ℕ → Type 0
HasRoom None new before now answer bytes = Unit {0}
HasRoom (Some room) new before now answer bytes = HasRoomIn room new before now answer bytes
