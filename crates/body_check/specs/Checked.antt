-- What the checker answers of code, as what the checker on trees says.
use Rattle.std.specs.Prelude.{◌≡◌, ℕ, Result, Ok, Err}
use Rattle.wasm_typing.specs.declared.fault.ValidRefusal.{ValidRefusal}
use Rattle.wasm_typing.specs.declared.fault.ValidRefusal.TheVariants.{Invalid, Memory}
use Rattle.body_check.specs.Checker.{Operands, Ran, refusal}

-- it went on to some operands, or was refused at some token by this fault
abbrev pub Checked : {A : Type 0} → Result A ValidRefusal → Ran → Type 0
Checked (Ok a) ran = (s : Operands) × (ran ≡ Ok s)
Checked (Err (Invalid place cause)) ran = (token : ℕ) × (ran ≡ Err (refusal token (record { place = place; cause = cause })))
Checked (Err Memory) ran = Unit {0}
