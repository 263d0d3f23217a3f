use Rattle.wasm_set.proofs.Common.{◌≡◌, length, drop, equal_types}
use Rattle.wasm_set.proofs.types.same_types.Given as goal

abbrev pub invariant-loop-i : goal.invariant-loop-i
invariant-loop-i l = record {
  length : length l.left ≡ length l.right;
  types : equal_types (drop l.i l.left) (drop l.i l.right) ≡ equal_types l.left l.right;
}
