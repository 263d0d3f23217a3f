-- What the checker of a body answers of one instruction that holds no code, and of what it looks up.
use Rattle.std.specs.Prelude.{◌≡◌, List, reverse, Option, Some, None, Result, Ok, Err}
use Rattle.w2c_base.specs.declared.value.ValType.{ValType}
use Rattle.wasm_tree.specs.Instructions.{Kind}
use Rattle.wasm_typing.specs.declared.fault.ValidCause.{ValidCause}
use Rattle.wasm_typing.specs.Context.{Context}
use Rattle.wasm_typing.specs.BodyFault.{cause_of}
use Rattle.body_check.specs.declared.stop.Stop.{Stop}
use Rattle.body_check.specs.declared.stop.Stop.TheVariants.{Cause, Memory}
use Rattle.body_check.specs.declared.operands.OperandStack.{OperandStack}
use Rattle.body_check.specs.Checker.{Operands, step}
use Rattle.body_check.specs.Shown.{shown}

-- it went on to these operands, or was refused for this cause
abbrev pub Plain : {A : Type 0} → Result A Stop → Option Operands → ValidCause → Operands → Type 0
Plain (Ok a) went cause new = went ≡ Some new
Plain (Err (Cause c)) went cause new = (went ≡ None) × (c ≡ cause)
Plain (Err Memory) went cause new = Unit {0}

-- what stands there, or that nothing does, for this cause
abbrev pub Finds : {A : Type 0} → Result A Stop → Option A → ValidCause → Type 0
Finds (Ok a) found cause = found ≡ Some a
Finds (Err (Cause c)) found cause = (found ≡ None) × (c ≡ cause)
Finds (Err Memory) found cause = ⊥

-- the step of an instruction in this context, under these labels, the innermost last
abbrev pub Does : Context → List (Option ValType) → Kind → {A : Type 0} → Result A Stop → OperandStack → OperandStack → Type 0
Does c labels kind result old new =
    Plain result (step c (reverse labels) kind (shown old)) (cause_of c (reverse labels) kind) (shown new)
