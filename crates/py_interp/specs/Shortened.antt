-- A world, what is got of it and how a statement ends in it, shortened.
use Rattle.std.specs.Prelude.{Option, Some, None}
use Rattle.py_bytecode.specs.Values.{Value, It, World, Got, Fine, Raises, Stops, Leave, Breaks, Continues, Returns, Throws, Ended, Normal, Leaves, Halts}
use Rattle.py_answers.specs.Told.{Known, short_returned, short_value, short_events}

module _ {K : Type 0} where
  abbrev pub short_world : World K → World Known
  short_world w = record { events = short_events w.events; answers = w.answers; taken = w.taken }

  -- f shortens what is got
  abbrev pub short_got : {A B : Type 0} → (A → B) → Got K A → Got Known B
  short_got f (Fine x w) = Fine (f x) (short_world w)
  short_got f (Raises e w) = Raises (short_value e) (short_world w)
  short_got f (Stops es) = Stops (short_events es)

  abbrev pub short_option : Option (Value K) → Option (Value Known)
  short_option None = None
  short_option (Some x) = Some (short_value x)

  abbrev pub short_leave : Leave K → Leave Known
  short_leave Breaks = Breaks
  short_leave Continues = Continues
  short_leave (Returns e) = Returns (It (short_returned e))
  short_leave (Throws e) = Throws (short_value e)

  abbrev pub short_ended : Ended K → Ended Known
  short_ended (Normal w) = Normal (short_world w)
  short_ended (Leaves r w) = Leaves (short_leave r) (short_world w)
  short_ended (Halts es) = Halts (short_events es)
