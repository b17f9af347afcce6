-- What is refused of an instruction by itself.
use Rattle.std.specs.Prelude.{◌≡◌, ◌≢◌, ℕ, ◌<◌, List, length, Bool, true, false, Option, Some, None, nat_lt, slice_index_or}
use Rattle.py_bytecode.specs.declared.instruction.OperandKind.{OperandKind}
use Rattle.py_bytecode.specs.declared.instruction.OperandKind.TheVariants as kind
use Rattle.py_bytecode.specs.Table.{row_of, range_of}
use Rattle.py_bytecode.specs.Decode.{Tables}
use Rattle.py_bytecode.specs.Units.{is_prefix}
use Rattle.py_dataflow.specs.declared.info.InstructionInfo.{InstructionInfo}
use Rattle.py_dataflow.specs.Flat.{is_jump}
use Rattle.py_ir.specs.declared.checks.TableLens.{TableLens}
use Rattle.py_ir.specs.declared.checks.Check.{Check}

abbrev pub lens_of : Tables → TableLens
lens_of t = record { constants = length t.constants; names = length t.names; varnames = length t.varnames; cells = length t.cells }

abbrev pub below : Option ℕ → ℕ → Bool
below None n = true
below (Some m) n = nat_lt n m

-- the operand is in its kind's range
abbrev pub in_kind : TableLens → OperandKind → ℕ → Bool
in_kind l kind.Const n = nat_lt n l.constants
in_kind l kind.Name n = nat_lt n l.names
in_kind l kind.Var n = nat_lt n l.varnames
in_kind l kind.Cell n = nat_lt n l.cells
in_kind l k n = below (range_of k) n

abbrev pub operand_fits : TableLens → InstructionInfo → Bool
operand_fits l x = in_kind l (row_of x.instr).kind x.arg.0

-- `inside` says of each block whether it is in the chain
abbrev pub Fails : Check → List Bool → TableLens → InstructionInfo → Type 0
Fails Check.TargetOutside inside l x = (x.target.0 ≢ 0xffff_ffff) × (slice_index_or inside x.target.0 false ≡ false)
Fails Check.JumpWithoutTarget inside l x = (x.target.0 ≡ 0xffff_ffff) × (is_jump x.instr ≡ true)
Fails Check.TargetOnOther inside l x = (x.target.0 ≢ 0xffff_ffff) × (is_jump x.instr ≡ false)
Fails Check.PrefixGiven inside l x = is_prefix x.instr ≡ true
Fails Check.OperandOutside inside l x = operand_fits l x ≡ false

abbrev pub NowhereFails : Check → List Bool → TableLens → List InstructionInfo → Type 0
NowhereFails check inside l items = (k : ℕ) (d : InstructionInfo) → k < length items → ¬ Fails check inside l (slice_index_or items k d)

abbrev pub FailsAt : Check → List Bool → TableLens → List InstructionInfo → ℕ → Type 0
FailsAt check inside l items place = (place < length items) × ((d : InstructionInfo) → Fails check inside l (slice_index_or items place d))

-- the order of the checks
abbrev pub rank : Check → ℕ
rank Check.TargetOutside = 0
rank Check.JumpWithoutTarget = 1
rank Check.TargetOnOther = 2
rank Check.PrefixGiven = 3
rank Check.OperandOutside = 4
