use Rattle.c_check.proofs.Common.{◌≡◌, ◌≤◌, true, map, length, drop, are_distinct, Knows}
use Rattle.c_check.proofs.ours.are_distinct.Given as goal

abbrev pub invariant-loop-i : goal.invariant-loop-i
invariant-loop-i l =
    (l.i ≤ length l.own) × (are_distinct (drop l.i (map (λ v. v.name.now) l.own)) ≡ true)
    × Knows l.behind (drop l.i (map (λ v. v.name.now) l.own))

abbrev pub decreases-loop-i : goal.decreases-loop-i
decreases-loop-i l = l.i
