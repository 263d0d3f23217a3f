use Rattle.c_check.proofs.Common.{◌≡◌, ℕ, ◌≤◌, true, map, length, drop, ◌==◌, nat_cmp, contains, list_any, are_distinct_numbers, case_value}
use Rattle.c_check.proofs.cases.are_distinct_numbers.Given as goal

abbrev pub invariant-loop-i : goal.invariant-loop-i
invariant-loop-i l = (l.i ≤ length l.cases) × (are_distinct_numbers (drop l.i (map case_value l.cases)) ≡ true)
    × ((m : ℕ) → contains nat_cmp l.behind m ≡ list_any (λ k. k == m) (drop l.i (map case_value l.cases)))

abbrev pub decreases-loop-i : goal.decreases-loop-i
decreases-loop-i l = l.i
