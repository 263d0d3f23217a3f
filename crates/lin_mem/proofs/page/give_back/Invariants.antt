use Rattle.std.proofs.Common.{◌≡◌, ◌++◌, None, drop, replicate}
use Rattle.lin_mem.proofs.page.give_back.Given as goal

abbrev pub invariant-loop-i : goal.invariant-loop-i
invariant-loop-i l = record {
  at : l.cells.at ≡ l.initial.cells.at;
  emptied : l.cells.slots ≡ replicate l.i None ++ drop l.i l.initial.cells.slots;
}
