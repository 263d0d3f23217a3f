-- Counting zeros: from the top by halves, what is left to count, and the count so far; and the lowest bit that is set.
use Rattle.c_prelude.proofs.Common.{◌≡◌, ℕ, zero, suc, ◌+◌, ◌-◌, ◌*◌, ◌/◌, ◌%◌, ◌^◌, ◌<◌, ◌≤◌, true, false, nat_eq, nat_lt, bit_and, sym}
use Rattle.c_prelude.proofs.Common.{refl, ap, ◌∙◌, subst, inl, inr, add-zero, mul-le-mul_right, mod-eq_of_lt, mul_assoc}
use Rattle.c_prelude.proofs.Common.{lt_of_mul-lt-mul_right, one-mul, pow-suc, zero-mul, mul-one, le_of_mul-le-mul_right, arith, pow_pos}
use Rattle.c_prelude.proofs.Common.{pow-add, and_block, and_zero_r, shifted_even, shifted_half, count_leading_zeros, zero-mod, eqb_tells}
use Rattle.c_prelude.proofs.Common.{nat_tests, shl_below, truth}
use lib.Count.{leading_unique, leading_of_zero, count_trailing_zeros}
use Rattle.c_prelude.proofs.Signs.{minus, minus-is}

-- before the stages for 2 ^ (c - 1) bits and less, a was shifted up by n to x
pub record Shifted (N c a x n : ℕ) : Type 0 where
  pub value : x ≡ a * 2 ^ n
  pub below : x < 2 ^ N
  pub reach : n + 2 ^ c ≤ N
  pub high : 0 < x → 2 ^ (N - 2 ^ c) ≤ x
  pub none : x ≡ 0 → n + 2 ^ c ≡ N

positive : (x m : ℕ) → 0 < x * m → 0 < x
positive zero m h = rw zero-mul at h
positive (suc x) m h = omega arith

vanishes : (x m : ℕ) → 0 < m → x * m ≡ 0 → x ≡ 0
vanishes zero m p e = refl
vanishes (suc x) m p e = absurd (omega arith)

higher : (i j k x : ℕ) → i + j ≡ k → 2 ^ i ≤ x → 2 ^ k ≤ x * 2 ^ j
higher i j k x e h = rw (← e, pow-add 2 i j) (mul-le-mul_right (2 ^ j) h)

module _ (N c a x n : ℕ) (wide : N < 2 ^ N) (h : Shifted N (suc c) a x n) where
  double : 2 ^ suc c ≡ 2 ^ c + 2 ^ c
  double = rw pow-suc (omega arith)

  -- the stage's shift
  pub shift-some : x < 2 ^ (N - 2 ^ c) → truth (nat_lt x (2 ^ (N - 2 ^ c))) * 2 ^ c % 2 ^ N ≡ 2 ^ c
  shift-some l =
      let e : nat_lt x (2 ^ (N - 2 ^ c)) ≡ true = grind (arith, nat_tests) in
      let k : 2 ^ c < 2 ^ N = omega (arith, double, h.reach) in
      rw (e, one-mul) (mod-eq_of_lt k)

  pub shift-none : 2 ^ (N - 2 ^ c) ≤ x → truth (nat_lt x (2 ^ (N - 2 ^ c))) * 2 ^ c % 2 ^ N ≡ 0
  shift-none l =
      let e : nat_lt x (2 ^ (N - 2 ^ c)) ≡ false = grind (arith, nat_tests) in
      rw (e, zero-mul) (zero-mod (2 ^ N))

  pub shifted-some : x < 2 ^ (N - 2 ^ c) → Shifted N c a (x * 2 ^ 2 ^ c % 2 ^ N) ((n + 2 ^ c) % 2 ^ N)
  shifted-some l =
      let r : n + (2 ^ c + 2 ^ c) ≤ N = rw double at h.reach in
      let e : N - 2 ^ c + 2 ^ c ≡ N = omega arith in
      let k : x * 2 ^ 2 ^ c < 2 ^ N = rw e at (shl_below x (N - 2 ^ c) (2 ^ c) l) in
      let f : x * 2 ^ 2 ^ c % 2 ^ N ≡ x * 2 ^ 2 ^ c = mod-eq_of_lt k in
      let i : n + 2 ^ c < 2 ^ N = omega arith in
      let g : (n + 2 ^ c) % 2 ^ N ≡ n + 2 ^ c = mod-eq_of_lt i in
      rw (f, g) (record {
        value = ap (λ v. v * 2 ^ 2 ^ c) h.value ∙ (mul_assoc a (2 ^ n) (2 ^ 2 ^ c) ∙ ap (λ v. a * v) (sym (pow-add 2 n (2 ^ c))));
        below = k;
        reach = omega arith;
        high = λ q. higher (N - 2 ^ suc c) (2 ^ c) (N - 2 ^ c) x (omega (arith, double)) (h.high (positive x (2 ^ 2 ^ c) q));
        none = λ z. omega (arith, double, h.none (vanishes x (2 ^ 2 ^ c) (pow_pos (2 ^ c)) z));
      })

  pub shifted-none : 2 ^ (N - 2 ^ c) ≤ x → Shifted N c a (x * 2 ^ 0 % 2 ^ N) ((n + 0) % 2 ^ N)
  shifted-none l =
      let e : x * 2 ^ 0 % 2 ^ N ≡ x = rw (mul-one x) (mod-eq_of_lt h.below) in
      let i : n < 2 ^ N = omega (arith, h.reach) in
      let g : (n + 0) % 2 ^ N ≡ n = rw (add-zero n) (mod-eq_of_lt i) in
      let p : 0 < 2 ^ (N - 2 ^ c) = pow_pos (N - 2 ^ c) in
      rw (e, g) (record {
        value = h.value;
        below = h.below;
        reach = omega (arith, double, h.reach);
        high = λ q. l;
        none = λ z. omega arith;
      })

fits : (x a n N : ℕ) → n ≤ N → x ≡ a * 2 ^ n → x < 2 ^ N → a * 2 ^ n < 2 ^ (N - n) * 2 ^ n
fits x a n N l e h =
    let f : N - n + n ≡ N = omega arith in
    rw (← e, ← pow-add 2 (N - n) n, f) h

reaches : (x a n N : ℕ) → n + 1 ≤ N → x ≡ a * 2 ^ n → 2 ^ (N - 1) ≤ x → 2 ^ (N - n) ≤ 2 * a + 1
reaches x a n N l e h =
    let f : N - n - 1 + n ≡ N - 1 = omega arith in
    let g : N - n ≡ suc (N - n - 1) = omega arith in
    let k : 2 ^ (N - n - 1) * 2 ^ n ≤ a * 2 ^ n = rw (← e, ← pow-add 2 (N - n - 1) n, f) h in
    let m : 2 ^ (N - n - 1) ≤ a = le_of_mul-le-mul_right k (pow_pos n) in
    rw (g, pow-suc) (omega arith)

pub counted : (N a x n : ℕ) → N < 2 ^ N → Shifted N 0 a x n → (n + truth (nat_eq x 0)) % 2 ^ N ≡ count_leading_zeros N a
counted N a x n wide h =
    elim (eqb_tells x 0) [
      | inl z ↦
          let e : n + 1 ≡ N = h.none z.1 in
          let k : a ≡ 0 = vanishes a (2 ^ n) (pow_pos n) (sym h.value ∙ z.1) in
          rw (z.0, e, k, mod-eq_of_lt wide) (sym (leading_of_zero N))
      | inr z ↦
          let p : 2 ^ (N - 1) ≤ x = h.high (omega arith) in
          let l : n < 2 ^ N = omega (arith, h.reach) in
          let r : n + 1 ≤ N = h.reach in
          rw (z.0, add-zero n, mod-eq_of_lt l)
          (leading_unique N a n (N - n) (omega arith)
          (lt_of_mul-lt-mul_right (2 ^ n) (fits x a n N (omega arith) h.value h.below))
          (reaches x a n N (omega arith) h.value p))
    ]

pub room : (N c n : ℕ) → n + 2 ^ suc c ≤ N → 0 < N
room N c n h = omega (arith, pow_pos (suc c))

pub more_room : (N c n : ℕ) → n + 2 ^ suc c ≤ N → 2 ^ c < N
more_room N c n h = let d : 2 ^ suc c ≡ 2 ^ c * 2 = pow-suc 2 c in omega (arith, pow_pos c)

-- ---- trailing zeros: the lowest bit that is set

trailing_shifted : (N n x : ℕ) → x % 2 ≡ 1 → n < N → count_trailing_zeros N (x * 2 ^ n) ≡ n
unfolding count_trailing_zeros
trailing_shifted zero n x o l = absurd (omega arith)
trailing_shifted (suc N) zero x o l = rw (mul-one x, o)
trailing_shifted (suc N) (suc n) x o l = rw (shifted_even x n, shifted_half x n) (ap suc (trailing_shifted N n x o (omega arith)))

-- an odd number, shifted up
odd_part : (N x : ℕ) → 0 < x → x < 2 ^ N → (n : ℕ) × (u : ℕ) × (n < N) × (x ≡ (u * 2 + 1) * 2 ^ n)
odd_part zero x p l = absurd (omega arith)
odd_part (suc N) x p l =
    let e : 2 ^ suc N ≡ 2 ^ N * 2 = pow-suc 2 N in
    elim (eqb_tells (x % 2) 0) [
      | inl z ↦
          let h = odd_part N (x / 2) (omega arith) (omega arith) in
          let f : 2 ^ suc h.0 ≡ 2 ^ h.0 * 2 = pow-suc 2 h.0 in
          let g : (h.1 * 2 + 1) * 2 ^ suc h.0 ≡ (h.1 * 2 + 1) * 2 ^ h.0 * 2 = rw f (omega arith) in
          let i : h.0 < N = h.2 in
          let j : x / 2 ≡ (h.1 * 2 + 1) * 2 ^ h.0 = h.3 in
          (suc h.0, h.1, omega arith, omega arith)
      | inr z ↦ (0, x / 2, omega arith, omega arith)
    ]

low_opposite : (r s : ℕ) → r + s ≡ 1 → bit_and r s ≡ 0
low_opposite zero s h = refl
low_opposite (suc zero) s h = let e : s ≡ 0 = omega arith in rw e (and_zero_r 1)
low_opposite (suc (suc r)) s h = absurd (omega arith)

-- a number and all its bits turned share none
and_opposite : (M u w : ℕ) → u + w + 1 ≡ 2 ^ M → bit_and u w ≡ 0
and_opposite zero u w h = let e : u ≡ 0 = omega arith in rw e refl
and_opposite (suc M) u w h =
    let e : 2 ^ suc M ≡ 2 ^ M * 2 = pow-suc 2 M in
    let c : u / 2 * 2 + u % 2 ≡ u = omega arith in
    let d : w / 2 * 2 + w % 2 ≡ w = omega arith in
    let i : bit_and (u / 2) (w / 2) ≡ 0 = and_opposite M (u / 2) (w / 2) (omega arith) in
    let j : bit_and (u % 2) (w % 2) ≡ 0 = low_opposite (u % 2) (w % 2) (omega arith) in
    ap (λ v. bit_and v w) (sym c)
    ∙ (ap (bit_and (u / 2 * 2 + u % 2)) (sym d)
    ∙ (and_block 1 (u / 2) (w / 2) (u % 2) (w % 2) (omega arith) (omega arith) ∙ rw (i, j) refl))

both_odd : (u w P : ℕ) → (u + w + 1) * 2 * P - (u * 2 + 1) * P ≡ (w * 2 + 1) * P
both_odd u w P = omega arith

common : (u w n : ℕ) → bit_and u w ≡ 0 → bit_and ((u * 2 + 1) * 2 ^ n) ((w * 2 + 1) * 2 ^ n) ≡ 2 ^ n
common u w n h =
    let p : 0 < 2 ^ n = pow_pos n in
    let a : bit_and ((u * 2 + 1) * 2 ^ n + 0) ((w * 2 + 1) * 2 ^ n + 0) ≡ bit_and (u * 2 + 1) (w * 2 + 1) * 2 ^ n + bit_and 0 0 =
    and_block n
    (u * 2 + 1) (w * 2 + 1) 0 0 p p in
    let b : bit_and (u * 2 + 1) (w * 2 + 1) ≡ bit_and u w * 2 + bit_and 1 1 = and_block 1 u w 1 1 (omega arith) (omega arith) in
    let c : bit_and (u * 2 + 1) (w * 2 + 1) ≡ 1 = b ∙ rw h refl in
    let d : (u * 2 + 1) * 2 ^ n ≡ (u * 2 + 1) * 2 ^ n + 0 = omega arith in
    let e : (w * 2 + 1) * 2 ^ n ≡ (w * 2 + 1) * 2 ^ n + 0 = omega arith in
    ap (λ v. bit_and v ((w * 2 + 1) * 2 ^ n)) d
    ∙ (ap (bit_and ((u * 2 + 1) * 2 ^ n + 0)) e ∙ (a ∙ rw c (one_time (2 ^ n))))
  where
    one_time : (v : ℕ) → 1 * v + 0 ≡ v
    one_time v = omega arith

-- the lowest bit that is set, as C computes it
abbrev pub lowest : ℕ → ℕ → ℕ
lowest N x = bit_and x (minus N x)

module _ (N : ℕ) (twice : 2 ^ N ≡ 2 * 2 ^ (N - 1)) (some : 0 < 2 ^ (N - 1)) where
  width : (n : ℕ) → n < N → 2 ^ N ≡ 2 ^ (N - suc n) * 2 * 2 ^ n
  width n b =
      let e : N - suc n + 1 + n ≡ N = omega arith in
      ap (λ i. 2 ^ i) (sym e) ∙ (pow-add 2 (N - suc n + 1) n ∙ ap (λ v. v * 2 ^ n) (pow-add 2 (N - suc n) 1))

  at_odd : (x n u w : ℕ) → 0 < x → x < 2 ^ N → n < N → x ≡ (u * 2 + 1) * 2 ^ n → u + w + 1 ≡ 2 ^ (N - suc n) → lowest N x ≡ 2 ^ n
  at_odd x n u w p l b is s =
      let f : 2 ^ N ≡ 2 ^ (N - suc n) * 2 * 2 ^ n = width n b in
      let m : minus N x ≡ 2 ^ N - x = minus-is N twice some x p (omega arith) in
      let j : 2 ^ N - x ≡ (w * 2 + 1) * 2 ^ n = rw (is, f, ← s) (both_odd u w (2 ^ n)) in
      ap (bit_and x) (m ∙ j) ∙ (ap (λ v. bit_and v ((w * 2 + 1) * 2 ^ n)) is ∙ common u w n (and_opposite (N - suc n) u w s))

  -- what is above it has room for its bits turned
  above_odd : (n u : ℕ) → n < N → (u * 2 + 1) * 2 ^ n < 2 ^ N → u < 2 ^ (N - suc n)
  above_odd n u b l =
      let f : 2 ^ N ≡ 2 ^ (N - suc n) * 2 * 2 ^ n = width n b in
      let g : (u * 2 + 1) * 2 ^ n < 2 ^ (N - suc n) * 2 * 2 ^ n = rw f at l in
      let k : u * 2 + 1 < 2 ^ (N - suc n) * 2 = lt_of_mul-lt-mul_right (2 ^ n) g in
      omega arith

  pub lowest-is : (x : ℕ) → 0 < x → x < 2 ^ N → (n : ℕ) × (n < N) × (lowest N x ≡ 2 ^ n) × (count_trailing_zeros N x ≡ n)
  lowest-is x p l = found (odd_part N x p l)
    where
      found : ((n : ℕ) × (u : ℕ) × (n < N) × (x ≡ (u * 2 + 1) * 2 ^ n))
          → (n : ℕ) × (n < N) × (lowest N x ≡ 2 ^ n) × (count_trailing_zeros N x ≡ n)
      found (n, u, b, is) =
          let k : u < 2 ^ (N - suc n) = above_odd n u b (subst (λ v. v < 2 ^ N) is l) in
          let s : u + (2 ^ (N - suc n) - suc u) + 1 ≡ 2 ^ (N - suc n) = omega arith in
          let o : (u * 2 + 1) % 2 ≡ 1 = omega arith in
          (n, b, at_odd x n u (2 ^ (N - suc n) - suc u) p l b is s, ap (count_trailing_zeros N) is ∙ trailing_shifted N n (u * 2 + 1) o b)
