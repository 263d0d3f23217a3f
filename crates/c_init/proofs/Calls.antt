-- Calls of parts in order.
use Rattle.std.proofs.Common.{◌-◌}
use Rattle.c_init.proofs.Common.{◌≡◌, ℕ, suc, ◌+◌, ◌<◌, ◌≤◌, [], ◌∷◌, map, ap, arith, range_with_len}
use Rattle.c_init.specs.Init.{call_part}

pub next_calls : (k n : ℕ) → k < n
    → map call_part (range_with_len k (n - k)) ≡ call_part k ∷ map call_part (range_with_len (k + 1) (n - (k + 1)))
next_calls k n less =
    let e : n - k ≡ suc (n - (k + 1)) = omega (arith, less) in
    ap (λ j. map call_part (range_with_len k j)) e

pub no_calls : (k n : ℕ) → n ≤ k → map call_part (range_with_len k (n - k)) ≡ []
no_calls k n past =
    let e : n - k ≡ 0 = omega (arith, past) in
    ap (λ j. map call_part (range_with_len k j)) e
