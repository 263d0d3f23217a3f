-- Signed numbers of N bits by the numbers that C computes.
use Rattle.c_prelude.proofs.Common.{◌≡◌, ℕ, zero, suc, ◌+◌, ◌-◌, ◌*◌, ◌/◌, ◌%◌, ◌^◌, ◌<◌, ◌≤◌, true, false, ◌≢◌, ◌⊎◌, pos, negsuc, neg_ℤ}
use Rattle.c_prelude.proofs.Common.{nat_eq, int_div, int_rem, refl, mod-eq_of_lt, arith, mod_self, zero-mod, nat_tests, DivByZero}
use Rattle.c_prelude.proofs.Common.{IntOverflow, Gives, Traps, div_s, overflows, pattern_of, rem_s, signed}
use Rattle.c_prelude.proofs.Numbers.{signed_low, signed_high}

-- 0 - v in C
abbrev pub minus : ℕ → ℕ → ℕ
minus N v = (0 + (2 ^ N - v)) % 2 ^ N

module _ (N : ℕ) (twice : 2 ^ N ≡ 2 * 2 ^ (N - 1)) (some : 0 < 2 ^ (N - 1)) where
  pub minus-is : (v : ℕ) → 0 < v → v ≤ 2 ^ N → minus N v ≡ 2 ^ N - v
  minus-is v p q =
      let e : 0 + (2 ^ N - v) ≡ 2 ^ N - v = omega arith in
      let l : 2 ^ N - v < 2 ^ N = omega arith in
      rw e (mod-eq_of_lt l)

  pub pattern_of-pos : (a : ℕ) → a < 2 ^ N → pattern_of N (pos a) ≡ a
  pattern_of-pos a h = mod-eq_of_lt h

  pub pattern_of-neg : (a : ℕ) → a ≤ 2 ^ (N - 1) → pattern_of N (neg_ℤ (pos a)) ≡ minus N a
  pattern_of-neg zero h = let e : 0 + (2 ^ N - 0) ≡ 2 ^ N = omega arith in rw (e, mod_self (2 ^ N)) (zero-mod (2 ^ N))
  pattern_of-neg (suc a) h =
      let k : a < 2 ^ N = omega arith in
      let e : minus N (suc a) ≡ 2 ^ N - suc a = minus-is (suc a) (omega arith) (omega arith) in
      rw (e, mod-eq_of_lt k) (omega arith)

  pub is_low : (x : ℕ) → x < 2 ^ (N - 1) → signed N x ≡ pos x
  is_low x h = signed_low (2 ^ (N - 1)) x N refl h

  pub is_high : (x : ℕ) → 2 ^ (N - 1) ≤ x → x < 2 ^ N → signed N x ≡ negsuc (2 ^ N - suc x)
  is_high x h l = signed_high (2 ^ (N - 1)) x N refl h l

  pub suc-is : (x : ℕ) → 2 ^ (N - 1) ≤ x → x < 2 ^ N → suc (2 ^ N - suc x) ≡ minus N x
  suc-is x h l = rw (minus-is x (omega arith) (omega arith)) (omega arith)

  pub minus_not_zero : (x : ℕ) → 2 ^ (N - 1) ≤ x → x < 2 ^ N → nat_eq (minus N x) 0 ≡ false
  minus_not_zero x h l = let e : minus N x ≡ 2 ^ N - x = minus-is x (omega arith) (omega arith) in rw e (grind (arith, nat_tests))

  -- quotients and remainders by the signs of dividend and divisor
  pub quot_pp : (x y : ℕ) → x < 2 ^ (N - 1) → y < 2 ^ (N - 1) → y ≢ 0 → pattern_of N (int_div (signed N x) (signed N y)) ≡ x / y
  quot_pp x y p q n = rw (is_low x p, is_low y q) (pattern_of-pos (x / y) (omega arith))

  pub quot_pn : (x y : ℕ) → x < 2 ^ (N - 1) → 2 ^ (N - 1) ≤ y → y < 2 ^ N
      → pattern_of N (int_div (signed N x) (signed N y)) ≡ minus N (x / minus N y)
  quot_pn x y p q l = rw (is_low x p, is_high y q l, suc-is y q l) (pattern_of-neg (x / minus N y) (omega arith))

  pub quot_np : (x y : ℕ) → 2 ^ (N - 1) ≤ x → x < 2 ^ N → y < 2 ^ (N - 1) → y ≢ 0
      → pattern_of N (int_div (signed N x) (signed N y)) ≡ minus N (minus N x / y)
  quot_np x y p l q n =
      let e : minus N x ≡ 2 ^ N - x = minus-is x (omega arith) (omega arith) in
      rw (is_high x p l, is_low y q, suc-is x p l) (pattern_of-neg (minus N x / y) (omega arith))

  pub quot_nn : (x y : ℕ) → 2 ^ (N - 1) ≤ x → x < 2 ^ N → 2 ^ (N - 1) ≤ y → y < 2 ^ N
      → pattern_of N (int_div (signed N x) (signed N y)) ≡ minus N x / minus N y
  quot_nn x y p l q k =
      let e : minus N x ≡ 2 ^ N - x = minus-is x (omega arith) (omega arith) in
      rw (is_high x p l, is_high y q k, suc-is x p l, suc-is y q k) (pattern_of-pos (minus N x / minus N y) (omega arith))

  pub rem_pp : (x y : ℕ) → x < 2 ^ (N - 1) → y < 2 ^ (N - 1) → y ≢ 0 → pattern_of N (int_rem (signed N x) (signed N y)) ≡ x % y
  rem_pp x y p q n = rw (is_low x p, is_low y q) (pattern_of-pos (x % y) (omega arith))

  pub rem_pn : (x y : ℕ) → x < 2 ^ (N - 1) → 2 ^ (N - 1) ≤ y → y < 2 ^ N → pattern_of N (int_rem (signed N x) (signed N y)) ≡ x % minus N y
  rem_pn x y p q l = rw (is_low x p, is_high y q l, suc-is y q l) (pattern_of-pos (x % minus N y) (omega arith))

  pub rem_np : (x y : ℕ) → 2 ^ (N - 1) ≤ x → x < 2 ^ N → y < 2 ^ (N - 1) → y ≢ 0
      → pattern_of N (int_rem (signed N x) (signed N y)) ≡ minus N (minus N x % y)
  rem_np x y p l q n =
      let e : minus N x ≡ 2 ^ N - x = minus-is x (omega arith) (omega arith) in
      rw (is_high x p l, is_low y q, suc-is x p l) (pattern_of-neg (minus N x % y) (omega arith))

  pub rem_nn : (x y : ℕ) → 2 ^ (N - 1) ≤ x → x < 2 ^ N → 2 ^ (N - 1) ≤ y → y < 2 ^ N
      → pattern_of N (int_rem (signed N x) (signed N y)) ≡ minus N (minus N x % minus N y)
  rem_nn x y p l q k =
      let e : minus N x ≡ 2 ^ N - x = minus-is x (omega arith) (omega arith) in
      rw (is_high x p l, is_high y q k, suc-is x p l, suc-is y q k) (pattern_of-neg (minus N x % minus N y) (omega arith))

  -- the whole answers
  pub div_s_zero : (x y : ℕ) → y ≡ 0 → div_s N x y ≡ Traps DivByZero
  div_s_zero x y e = rw e

  pub div_s_value : (x y v : ℕ) → y ≢ 0 → (x ≢ 2 ^ (N - 1)) ⊎ (suc y ≢ 2 ^ N) → pattern_of N (int_div (signed N x) (signed N y)) ≡ v
      → div_s N x y ≡ Gives v
  div_s_value x y v n o e =
      let z : nat_eq y 0 ≡ false = grind (arith, nat_tests) in
      let f : overflows N x y ≡ false = grind (arith, nat_tests) in
      rw (z, f, e)

  pub div_s_overflow : (x y : ℕ) → x ≡ 2 ^ (N - 1) → suc y ≡ 2 ^ N → div_s N x y ≡ Traps IntOverflow
  div_s_overflow x y d e =
      let z : nat_eq y 0 ≡ false = grind (arith, nat_tests) in
      let f : overflows N x y ≡ true = grind (arith, nat_tests) in
      rw (z, f)

  pub rem_s_zero : (x y : ℕ) → y ≡ 0 → rem_s N x y ≡ Traps DivByZero
  rem_s_zero x y e = rw e

  pub rem_s_value : (x y v : ℕ) → y ≢ 0 → pattern_of N (int_rem (signed N x) (signed N y)) ≡ v → rem_s N x y ≡ Gives v
  rem_s_value x y v n e = let z : nat_eq y 0 ≡ false = grind (arith, nat_tests) in rw (z, e)
