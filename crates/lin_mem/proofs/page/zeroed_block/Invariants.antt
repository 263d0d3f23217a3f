use Rattle.std.proofs.Common.{◌≡◌, ◌++◌, Some, drop, replicate}
use Rattle.lin_mem.proofs.page.zeroed_block.Given as goal

abbrev pub invariant-loop-i : goal.invariant-loop-i
invariant-loop-i l = record {
  at : l.cells.at ≡ l.initial.cells.at;
  filled : l.cells.slots ≡ replicate l.i (Some 0) ++ drop l.i l.initial.cells.slots;
}
