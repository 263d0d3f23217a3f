-- The operand stack in memory, seen as the operands of the innermost open block and what lies below them.
use Rattle.std.specs.Prelude.{◌≡◌, List, [], ◌∷◌, take, drop, Option, Some, None, Result, Ok, Err, Bool, true, false}
use Rattle.wasm_typing.specs.declared.fault.ValidCause.TheVariants as cause
use Rattle.body_check.specs.declared.stop.Stop.{Stop}
use Rattle.body_check.specs.declared.stop.Stop.TheVariants.{Cause, Memory}
use Rattle.body_check.specs.declared.operand.Operand.{Operand}
use Rattle.body_check.specs.declared.operand.Operand.TheVariants.{Unknown}
use Rattle.body_check.specs.declared.operands.OperandStack.{OperandStack}
use Rattle.body_check.specs.Checker.{Operands, nothing, anything, on}

abbrev pub bottom : Bool → Operands
bottom true = anything
bottom false = nothing

-- the last one is the top
abbrev pub pile : List Operand → Operands → Operands
pile [] s = s
pile (x ∷ xs) s = pile xs (on x s)

-- the operands of the innermost open block
abbrev pub shown : OperandStack → Operands
shown o = pile (drop o.height.below o.slots.items) (bottom o.height.dead)

-- what lies below them is as it was
pub record Keeps (old new : OperandStack) : Type 0 where
  pub height : new.height.below ≡ old.height.below
  pub below : take old.height.below new.slots.items ≡ take old.height.below old.slots.items

-- the operands behind a step that went on; one that did not lacked an operand of the right type
abbrev pub Steps : {A : Type 0} → Result A Stop → Option Operands → Operands → Type 0
Steps (Ok a) r new = r ≡ Some new
Steps (Err (Cause c)) r new = (c ≡ cause.TypeMismatch) × (r ≡ None)
Steps (Err Memory) r new = Unit {0}

-- the top, and what is left
abbrev pub popped : Operands → Option (Operand × Operands)
popped nothing = None
popped anything = Some (Unknown, anything)
popped (on x s) = Some (x, s)

abbrev pub Pops : Result Operand Stop → Operands → Operands → Type 0
Pops (Ok x) old new = popped old ≡ Some (x, new)
Pops (Err (Cause c)) old new = (c ≡ cause.TypeMismatch) × (popped old ≡ None)
Pops (Err Memory) old new = ⊥
