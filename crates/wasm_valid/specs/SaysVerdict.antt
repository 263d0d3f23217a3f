-- A check that goes on only where a module is accepted, and else gives its first fault or wants memory.
use Rattle.std.specs.Prelude.{Result, Ok, Err}
use Rattle.wasm_tree.specs.declared.tree.Module.{Module}
use Rattle.wasm_typing.specs.declared.fault.ValidRefusal.{ValidRefusal}
use Rattle.wasm_typing.specs.declared.fault.ValidRefusal.TheVariants as refused
use Rattle.wasm_typing.specs.Verdict.{Verdict, Accepted, Invalid}

abbrev pub SaysVerdict : {A : Type 0} → Result A ValidRefusal → Module → Type 0
SaysVerdict (Ok a) m = Verdict m Accepted
SaysVerdict (Err (refused.Invalid place cause)) m = Verdict m (Invalid (record { place = place; cause = cause }))
SaysVerdict (Err refused.Memory) m = Unit {0}
