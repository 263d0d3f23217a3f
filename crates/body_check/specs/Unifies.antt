-- What two operands have in common, as an answer: there is such an operand, or none.
use Rattle.std.specs.Prelude.{◌≡◌, Option, Some, None, Result, Ok, Err}
use Rattle.wasm_typing.specs.declared.fault.ValidCause.TheVariants as cause
use Rattle.body_check.specs.declared.stop.Stop.{Stop}
use Rattle.body_check.specs.declared.stop.Stop.TheVariants.{Cause, Memory}
use Rattle.body_check.specs.declared.operand.Operand.{Operand}

abbrev pub Unifies : Result Operand Stop → Option Operand → Type 0
Unifies (Ok x) r = r ≡ Some x
Unifies (Err (Cause c)) r = (c ≡ cause.TypeMismatch) × (r ≡ None)
Unifies (Err Memory) r = ⊥
