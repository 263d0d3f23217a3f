use Rattle.std.proofs.Common.{◌≡◌, All, length}
use Rattle.lin_mem.proofs.memory.zeroed_pages.Given as goal

abbrev pub invariant-loop : goal.invariant-loop
invariant-loop l = record {
  size : length l.pages.items ≡ l.counter;
  each : All (λ page. (length page ≡ 65536) × All (λ b. b ≡ 0) page) l.pages.items;
}
