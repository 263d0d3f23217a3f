use Rattle.wasm_set.proofs.Common.{◌≡◌, drop, module_named}
use Rattle.wasm_set.proofs.joining.place_of.Given as goal

abbrev pub invariant-loop-i : goal.invariant-loop-i
invariant-loop-i l = module_named (drop l.i l.modules) l.name ≡ module_named l.modules l.name
