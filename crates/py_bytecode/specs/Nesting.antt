-- How deep codes and tuples nest.
use Rattle.std.specs.Prelude.{ℕ, ◌+◌, max}
use Rattle.py_bytecode.specs.Objects as obj
use Rattle.py_bytecode.specs.Objects.{Const, Consts, Object}

abbrev mutual
  -- a code and a tuple count one
  pub const_nesting : Const → ℕ
  const_nesting (obj.tuple cs) = consts_nesting cs + 1
  const_nesting (obj.code o) = nesting o
  const_nesting obj.none = 0
  const_nesting (obj.boolean b) = 0
  const_nesting (obj.str t) = 0
  const_nesting (obj.bytes bs) = 0
  const_nesting (obj.integer z) = 0
  const_nesting obj.ellipsis = 0

  -- that of the deepest, 0 where there is none
  pub consts_nesting : Consts → ℕ
  consts_nesting obj.no_consts = 0
  consts_nesting (obj.more_consts c cs) = max (const_nesting c) (consts_nesting cs)

  pub nesting : Object → ℕ
  nesting (obj.object_of h cs) = consts_nesting cs + 1
