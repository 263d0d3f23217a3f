use Rattle.std.proofs.Common.{ℕ, ◌*◌, ◌^◌, ◌<◌, ◌≤◌}
use Rattle.leb_bytes.proofs.write.groups.Given as goal

-- fewer groups do not hold the number
abbrev pub invariant-loop-count : goal.invariant-loop-count
invariant-loop-count l = (k : ℕ) → 0 < k → k < l.count → 2 ^ (7 * k) ≤ l.n
