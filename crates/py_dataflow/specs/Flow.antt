-- How each instruction changes the height of the stack and the blocks.
use Rattle.std.specs.Prelude.{ℕ, ◌+◌, ◌-◌, ◌*◌, ◌%◌, ◌/◌, ◌==◌, nat_eq, Bool, true, false, Option, Some, None, if◌then◌else◌}
use Rattle.py_bytecode.specs.declared.instruction.Instruction.{Instruction}
use Rattle.py_bytecode.specs.declared.instruction.Instruction.TheVariants as op
use Rattle.py_bytecode.specs.Table.{bits_of}
use Rattle.py_bytecode.specs.Values.{Usage, Load, Store, Delete}
use Rattle.py_bytecode.specs.Machine as M
use Rattle.py_bytecode.specs.Machine.{Instr}
use Rattle.py_dataflow.specs.declared.flow.Kind.{Kind}
use Rattle.py_dataflow.specs.declared.flow.NeededBlock.{NeededBlock}
use Rattle.py_dataflow.specs.declared.flow.Opening.{Opening}
use Rattle.py_dataflow.specs.declared.flow.Branch.{Branch}
use Rattle.py_dataflow.specs.declared.flow.Flow.{Flow}

abbrev pub opening : Kind → Opening
opening k = record { kind = k; plain = false; exit = false }

-- the handlers to which a `finally` and a `with` lead
abbrev pub plain_handler : Opening
plain_handler = record { kind = Kind.FinallyHandler; plain = true; exit = false }

abbrev pub exit_handler : Opening
exit_handler = record { kind = Kind.FinallyHandler; plain = false; exit = true }

abbrev pub straight : Branch
straight = Branch.Goes 0 0 None

-- a jump where the next instruction may follow
abbrev pub jumps : (takes looks gives : ℕ) → Branch → Flow
jumps t l g b = record { takes = t; looks_at = l; gives = g; falls = true; needs = NeededBlock.Nothing; pops = false; opens = None; branch = b }

-- no jump, and the next instruction follows
abbrev pub goes_on : (takes looks gives : ℕ) → Flow
goes_on t l g = jumps t l g straight

-- no jump, and the next instruction never follows
abbrev pub leaves : (takes : ℕ) → Flow
leaves t = record { takes = t; looks_at = 0; gives = 0; falls = false; needs = NeededBlock.Nothing; pops = false; opens = None; branch = straight }

-- a jump where the next instruction never follows
abbrev pub jumps_away : NeededBlock → Branch → Flow
jumps_away n b = record { takes = 0; looks_at = 0; gives = 0; falls = false; needs = n; pops = false; opens = None; branch = b }

abbrev pub opens_block : (takes gives : ℕ) → Kind → Branch → Flow
opens_block t g k b = record { takes = t; looks_at = 0; gives = g; falls = true; needs = NeededBlock.Nothing; pops = false; opens = Some (opening k); branch = b }

-- closes the innermost block, which has to be the one that it needs
abbrev pub closes : NeededBlock → (takes : ℕ) → Flow
closes n t = record { takes = t; looks_at = 0; gives = 0; falls = true; needs = n; pops = true; opens = None; branch = straight }

-- looks at the exit of a `with`, in whose handler it stands
abbrev pub calls_exit : Flow
calls_exit = record { takes = 0; looks_at = 1; gives = 0; falls = true; needs = NeededBlock.FinallyHandler; pops = false; opens = None; branch = straight }

abbrev pub one_if : Bool → ℕ
one_if true = 1
one_if false = 0

abbrev pub accesses : Usage → Flow
accesses Load = goes_on 0 0 1
accesses Store = goes_on 1 0 0
accesses Delete = goes_on 0 0 0

-- an operation takes and gives so many values, or (None) only raises
abbrev pub operates : ℕ → Option ℕ → Flow
operates t (Some g) = goes_on t 0 g
operates t None = leaves t

-- the flow of an instruction, by its class
abbrev pub flow_of : {K P : Type 0} → Instr K P → Flow
flow_of (M.Push e) = goes_on 0 0 1
flow_of (M.Access k u n p) = accesses u
flow_of (M.Operate o t g) = operates t g
flow_of (M.MakeFunction fl c n) = goes_on (2 + one_if c + n) 0 1
flow_of (M.Import o) = goes_on 0 1 1
flow_of (M.Append o n d) = goes_on n (d + 1) 0
flow_of (M.Unpack o n) = goes_on 1 0 n
flow_of M.Nop = goes_on 0 0 0
flow_of M.Pop = goes_on 1 0 0
flow_of M.Rotate2 = goes_on 2 0 2
flow_of M.Rotate3 = goes_on 3 0 3
flow_of M.Duplicate = goes_on 1 0 2
flow_of M.Duplicate2 = goes_on 2 0 4
flow_of (M.JumpIf c p) = jumps 1 0 0 (Branch.Goes 1 0 None)
flow_of (M.JumpIfOrPop c p) = jumps 1 0 0 (Branch.Goes 1 1 None)
flow_of (M.Jump p) = jumps_away NeededBlock.Nothing straight
flow_of M.SetupLoop = opens_block 0 0 Kind.Loop straight
flow_of M.PopBlock = closes NeededBlock.Entered 0
flow_of (M.Break p) = jumps_away NeededBlock.Loop Branch.Breaks
flow_of (M.Continue p) = jumps_away NeededBlock.Loop Branch.Continues
flow_of M.ReturnValue = leaves 1
flow_of (M.ReturnConst v) = leaves 0
flow_of (M.SetupExcept p) = opens_block 0 0 Kind.Except (Branch.Goes 0 1 (Some (opening Kind.ExceptHandler)))
flow_of (M.SetupFinally p) = opens_block 0 0 Kind.Finally (Branch.Goes 0 0 (Some plain_handler))
flow_of M.PopException = closes NeededBlock.ExceptHandler 0
flow_of M.EnterFinally = opens_block 0 0 Kind.FinallyHandler straight
flow_of M.EndFinally = closes NeededBlock.NotExit 0
flow_of M.Reraise = leaves 0
flow_of (M.ForIter p) = jumps 0 1 1 (Branch.Goes 1 0 None)
flow_of (M.SetupWith p) = opens_block 1 2 Kind.With (Branch.Goes 1 1 (Some exit_handler))
flow_of M.WithCleanupStart = calls_exit
flow_of M.WithCleanupFinish = closes NeededBlock.NotPlain 1

-- the place that it jumps to, if it is a jump
abbrev pub target_of : {K P : Type 0} → Instr K P → Option P
target_of (M.JumpIf c p) = Some p
target_of (M.JumpIfOrPop c p) = Some p
target_of (M.Jump p) = Some p
target_of (M.Break p) = Some p
target_of (M.Continue p) = Some p
target_of (M.SetupExcept p) = Some p
target_of (M.SetupFinally p) = Some p
target_of (M.ForIter p) = Some p
target_of (M.SetupWith p) = Some p
target_of _ = None

-- how many values a function is made of: its code and name, and one for each flag
abbrev pub made_of : ℕ → ℕ
made_of n = 2 + one_if (n % 2 == 1) + bits_of (n - n % 2)

-- how many values a raise of each kind takes
abbrev pub raised_of : ℕ → ℕ
raised_of n = if nat_eq n 0 then 1 else (if nat_eq n 1 then 2 else 0)

-- the flow of an instruction without jump and block, by its operand
abbrev pub values_at : Instruction → ℕ → Flow
values_at op.ImportName n = goes_on 2 0 1
values_at op.ImportNameless n = goes_on 2 0 1
values_at op.ImportStar n = goes_on 1 0 0
values_at op.ImportFrom n = goes_on 0 1 1
values_at op.LoadFast n = goes_on 0 0 1
values_at op.LoadNameAny n = goes_on 0 0 1
values_at op.LoadGlobal n = goes_on 0 0 1
values_at op.LoadDeref n = goes_on 0 0 1
values_at op.LoadClassDeref n = goes_on 0 0 1
values_at op.LoadClosure n = goes_on 0 0 1
values_at op.StoreFast n = goes_on 1 0 0
values_at op.StoreLocal n = goes_on 1 0 0
values_at op.StoreGlobal n = goes_on 1 0 0
values_at op.StoreDeref n = goes_on 1 0 0
values_at op.DeleteFast n = goes_on 0 0 0
values_at op.DeleteLocal n = goes_on 0 0 0
values_at op.DeleteGlobal n = goes_on 0 0 0
values_at op.DeleteDeref n = goes_on 0 0 0
values_at op.Subscript n = goes_on 2 0 1
values_at op.StoreSubscript n = goes_on 3 0 0
values_at op.DeleteSubscript n = goes_on 2 0 0
values_at op.LoadAttr n = goes_on 1 0 1
values_at op.StoreAttr n = goes_on 2 0 0
values_at op.DeleteAttr n = goes_on 1 0 0
values_at op.LoadMethod n = goes_on 1 0 3
values_at op.LoadConst n = goes_on 0 0 1
values_at op.UnaryOperation n = goes_on 1 0 1
values_at op.BinaryOperation n = goes_on 2 0 1
values_at op.BinaryOperationInplace n = goes_on 2 0 1
values_at op.CompareOperation n = goes_on 2 0 1
values_at op.TestOperation n = goes_on 2 0 1
values_at op.Pop n = goes_on 1 0 0
values_at op.Rotate2 n = goes_on 2 0 2
values_at op.Rotate3 n = goes_on 3 0 3
values_at op.Duplicate n = goes_on 1 0 2
values_at op.Duplicate2 n = goes_on 2 0 4
values_at op.GetIter n = goes_on 1 0 1
values_at op.CallFunctionPositional n = goes_on (n + 1) 0 1
values_at op.CallFunctionKeyword n = goes_on (n + 2) 0 1
values_at op.CallFunctionEx n = goes_on (n + 2) 0 1
values_at op.CallMethodPositional n = goes_on (n + 3) 0 1
values_at op.CallMethodKeyword n = goes_on (n + 4) 0 1
values_at op.CallMethodEx n = goes_on (n + 4) 0 1
values_at op.BuildString n = goes_on n 0 1
values_at op.BuildTuple n = goes_on n 0 1
values_at op.BuildList n = goes_on n 0 1
values_at op.BuildSet n = goes_on n 0 1
values_at op.BuildTupleUnpack n = goes_on n 0 1
values_at op.BuildListUnpack n = goes_on n 0 1
values_at op.BuildSetUnpack n = goes_on n 0 1
values_at op.BuildMapForCall n = goes_on n 0 1
values_at op.BuildMap n = goes_on (2 * n) 0 1
values_at op.DictUpdate n = goes_on 2 0 1
values_at op.BuildSlice n = goes_on (n + 2) 0 1
values_at op.ListAppend n = goes_on 1 (n + 1) 0
values_at op.SetAdd n = goes_on 1 (n + 1) 0
values_at op.MapAdd n = goes_on 2 (n + 1) 0
values_at op.PrintExpr n = goes_on 1 0 0
values_at op.LoadBuildClass n = goes_on 0 0 1
values_at op.UnpackSequence n = goes_on 1 0 n
values_at op.UnpackEx n = goes_on 1 0 (n % 256 + n / 256 + 1)
values_at op.FormatValue n = goes_on 2 0 1
values_at op.MakeFunction n = goes_on (made_of n) 0 1
values_at op.YieldValue n = goes_on 1 0 1
values_at op.YieldFrom n = goes_on 2 0 1
values_at op.SetupAnnotation n = goes_on 0 0 0
values_at op.TypeAlias n = goes_on 3 0 1
values_at op.TypeVar n = goes_on 1 0 1
values_at op.TypeVarWithBound n = goes_on 2 0 1
values_at op.Nop n = goes_on 0 0 0
values_at op.ExtendedArg n = goes_on 0 0 0
values_at _ n = goes_on 0 0 0

-- the flow of an instruction, by its operand
abbrev pub flow_at : Instruction → ℕ → Flow
flow_at op.JumpIfTrue n = jumps 1 0 0 (Branch.Goes 1 0 None)
flow_at op.JumpIfFalse n = jumps 1 0 0 (Branch.Goes 1 0 None)
flow_at op.JumpIfTrueOrPop n = jumps 1 0 0 (Branch.Goes 1 1 None)
flow_at op.JumpIfFalseOrPop n = jumps 1 0 0 (Branch.Goes 1 1 None)
flow_at op.ForIter n = jumps 0 1 1 (Branch.Goes 1 0 None)
flow_at op.Jump n = jumps_away NeededBlock.Nothing straight
flow_at op.Break n = jumps_away NeededBlock.Loop Branch.Breaks
flow_at op.Continue n = jumps_away NeededBlock.Loop Branch.Continues
flow_at op.Raise n = leaves (raised_of n)
flow_at op.ReturnValue n = leaves 1
flow_at op.ReturnConst n = leaves 0
flow_at op.SetupLoop n = opens_block 0 0 Kind.Loop straight
flow_at op.EnterFinally n = opens_block 0 0 Kind.FinallyHandler straight
flow_at op.SetupExcept n = opens_block 0 0 Kind.Except (Branch.Goes 0 1 (Some (opening Kind.ExceptHandler)))
flow_at op.SetupFinally n = opens_block 0 0 Kind.Finally (Branch.Goes 0 0 (Some plain_handler))
flow_at op.SetupWith n = opens_block 1 2 Kind.With (Branch.Goes 1 1 (Some exit_handler))
flow_at op.PopBlock n = closes NeededBlock.Entered 0
flow_at op.PopException n = closes NeededBlock.ExceptHandler 0
flow_at op.EndFinally n = closes NeededBlock.NotExit 0
flow_at op.WithCleanupFinish n = closes NeededBlock.NotPlain 1
flow_at op.WithCleanupStart n = calls_exit
flow_at op n = values_at op n
