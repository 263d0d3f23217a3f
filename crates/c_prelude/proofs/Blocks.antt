-- Counting ones by sums of blocks: each block of a number holds the count of its ones.
use Rattle.c_prelude.proofs.Common.{◌≡◌, ℕ, zero, suc, ◌+◌, ◌-◌, ◌*◌, ◌/◌, ◌%◌, ◌^◌, ◌<◌, ◌≤◌, true, false, cond, nat_eq, bit_and, sym}
use Rattle.c_prelude.proofs.Common.{refl, ap, ◌∙◌, subst, inl, inr, le_refl, add_assoc, mul-le-mul_right, mod-lt, mod-eq_of_lt, add_comm}
use Rattle.c_prelude.proofs.Common.{mul-le-mul_left, pow-suc, div-add-mod', arith, pow_pos, pow_mono, pow-add, and_block, and_le_r}
use Rattle.c_prelude.proofs.Common.{and_mask, and_zero_r, add-mul-div_right, eqb_tells, nat_tests, div-mul-add, mod-mul-add, pow_below}
use Rattle.c_prelude.proofs.Common.{shl_below, shr_below}
use lib.Count.{ones, ones_in, ones_cat, ones-le}
use lib.Pow.{ones_lt}

-- the numbers of 2 ^ k bits whose blocks of 2 ^ (i + 1) bits have the low half set: 0x55.., 0x33.., ..
abbrev pub low_halves : ℕ → ℕ → ℕ
low_halves i zero = 0
low_halves i (suc k) = cond (nat_eq i k) (2 ^ 2 ^ k - 1) (low_halves i k * 2 ^ 2 ^ k + low_halves i k)

-- what a stage computes
abbrev pub summed : ℕ → ℕ → ℕ → ℕ
summed i m x = bit_and x m + bit_and (x / 2 ^ i) m

-- x after the stages from 0 to i - 1 at 2 ^ k bits
abbrev pub sums : ℕ → ℕ → ℕ → ℕ
sums zero k x = x
sums (suc i) k x = summed (2 ^ i) (low_halves i k) (sums i k x)

low_halves-top : (k : ℕ) → low_halves k (suc k) ≡ 2 ^ 2 ^ k - 1
low_halves-top k = let e : nat_eq k k ≡ true = grind (arith, nat_tests) in rw e

low_halves-more : (i k : ℕ) → i < k → low_halves i (suc k) ≡ low_halves i k * 2 ^ 2 ^ k + low_halves i k
low_halves-more i k l = let e : nat_eq i k ≡ false = grind (arith, nat_tests) in rw e

-- a stage works on both halves of a number apart
module _ (d b m x y : ℕ) (q : m < 2 ^ d) (r : y < 2 ^ (d + b)) where
  m-below : m < 2 ^ (d + b)
  m-below = let l : m * 1 ≤ m * 2 ^ b = mul-le-mul_left m (pow_pos b) in let k : m * 2 ^ b < 2 ^ (d + b) = shl_below m d b q in omega arith

  shifted : (x * 2 ^ (d + b) + y) / 2 ^ b ≡ x * 2 ^ d + y / 2 ^ b
  shifted =
      let e : x * 2 ^ (d + b) + y ≡ y + x * 2 ^ d * 2 ^ b = rw (pow-add 2 d b) (omega arith) in
      rw (e, add-mul-div_right y (x * 2 ^ d) (pow_pos b)) (add_comm (y / 2 ^ b) (x * 2 ^ d))

  split-up : x * 2 ^ d ≡ x / 2 ^ b * 2 ^ (d + b) + x % 2 ^ b * 2 ^ d
  split-up = rw (pow-add 2 d b) (ap (λ v. v * 2 ^ d) (sym (div-add-mod' x (2 ^ b))) ∙ again (x / 2 ^ b) (x % 2 ^ b) (2 ^ b) (2 ^ d))
    where
      again : (q r b d : ℕ) → (q * b + r) * d ≡ q * (d * b) + r * d
      again q r b d = omega arith

  low-part : x % 2 ^ b * 2 ^ d + y / 2 ^ b < 2 ^ (d + b)
  low-part =
      let l : y / 2 ^ b < 2 ^ d = shr_below y d b r in
      let k : x % 2 ^ b < 2 ^ b = mod-lt x (pow_pos b) in
      rw (pow-add 2 d b) (above (x % 2 ^ b) (y / 2 ^ b) (2 ^ b) (2 ^ d) k l)
    where
      above : (u v b d : ℕ) → u < b → v < d → u * d + v < d * b
      above u v b d p q = grind arith

  low-and : bit_and (x % 2 ^ b * 2 ^ d + y / 2 ^ b) m ≡ bit_and (y / 2 ^ b) m
  low-and =
      let l : y / 2 ^ b < 2 ^ d = shr_below y d b r in
      let e : m ≡ 0 * 2 ^ d + m = omega arith in
      ap (bit_and (x % 2 ^ b * 2 ^ d + y / 2 ^ b)) e ∙ (and_block d (x % 2 ^ b) 0 (y / 2 ^ b) m l q
      ∙ rw (and_zero_r (x % 2 ^ b)) (omega arith))

  pub halves : summed b (m * 2 ^ (d + b) + m) (x * 2 ^ (d + b) + y) ≡ summed b m x * 2 ^ (d + b) + summed b m y
  halves =
      let f : bit_and (x * 2 ^ (d + b) + y) (m * 2 ^ (d + b) + m) ≡ bit_and x m * 2 ^ (d + b) + bit_and y m = and_block
      (d + b) x m y m r m-below in
      let e : (x * 2 ^ (d + b) + y) / 2 ^ b ≡ x / 2 ^ b * 2 ^ (d + b) + (x % 2 ^ b * 2 ^ d + y / 2 ^ b) = shifted
      ∙ (ap (λ v. v + y / 2 ^ b) split-up ∙ add_assoc (x / 2 ^ b * 2 ^ (d + b)) (x % 2 ^ b * 2 ^ d) (y / 2 ^ b)) in
      let g : bit_and (x / 2 ^ b * 2 ^ (d + b) + (x % 2 ^ b * 2 ^ d + y / 2 ^ b)) (m * 2 ^ (d + b) + m) ≡ bit_and (x / 2 ^ b) m * 2 ^
      (d + b) + bit_and (y / 2 ^ b) m = and_block (d + b) (x / 2 ^ b) m (x % 2 ^ b * 2 ^ d + y / 2 ^ b) m low-part m-below
      ∙ ap (λ v. bit_and (x / 2 ^ b) m * 2 ^ (d + b) + v) low-and in
      rw (f, e, g) (joins (bit_and x m) (bit_and y m) (bit_and (x / 2 ^ b) m) (bit_and (y / 2 ^ b) m) (2 ^ (d + b)))
    where
      joins : (p q r s h : ℕ) → p * h + q + (r * h + s) ≡ (p + r) * h + (q + s)
      joins p q r s h = omega arith

-- the last stage
last : (h x y : ℕ) → x < 2 ^ h → y < 2 ^ h → summed h (2 ^ h - 1) (x * 2 ^ h + y) ≡ x + y
last h x y p q =
    rw (div-mul-add x (2 ^ h) y q, and_mask (x * 2 ^ h + y) h, and_mask x h, mod-mul-add x (2 ^ h) y q, mod-eq_of_lt p) (add_comm y x)

-- a sum of two parts of m is below twice its bound
summed-below : (d b m x : ℕ) → m < 2 ^ d → 0 < b → summed b m x < 2 ^ (d + b)
summed-below d b m x h p =
    let k : bit_and x m ≤ m = and_le_r x m in
    let l : bit_and (x / 2 ^ b) m ≤ m = and_le_r (x / 2 ^ b) m in
    let t : 2 ^ 1 ≤ 2 ^ b = pow_mono p in
    rw (pow-add 2 d b) (twice_below (bit_and x m) (bit_and (x / 2 ^ b) m) m (2 ^ d) (2 ^ b) k l h t)
  where
    twice_below : (u v m d b : ℕ) → u ≤ m → v ≤ m → m < d → 2 ≤ b → u + v < d * b
    twice_below u v m d b p q r s = let e : d * 2 ≤ d * b = mul-le-mul_left d s in omega arith

both_below : (m d h : ℕ) → m < d → m < h → m * h + m < d * h
both_below m d h p q = let e : suc m * h ≤ d * h = mul-le-mul_right h p in omega arith

-- the mask leaves the upper half of the topmost block
below_top : (i k : ℕ) → i ≡ k → low_halves i (suc k) < 2 ^ (2 ^ suc k - 2 ^ i)
below_top i k e =
    let double : 2 ^ suc k ≡ 2 ^ k * 2 = pow-suc 2 k in
    let f : 2 ^ suc k - 2 ^ k ≡ 2 ^ k = omega arith in
    let at_k : 2 ^ 2 ^ k - 1 < 2 ^ (2 ^ suc k - 2 ^ k) = rw f (ones_lt (2 ^ k)) in
    subst (λ j. low_halves j (suc k) < 2 ^ (2 ^ suc k - 2 ^ j)) (sym e) (rw (low_halves-top k) at_k)

below_more : (i k : ℕ) → i < k → low_halves i k < 2 ^ (2 ^ k - 2 ^ i) → low_halves i (suc k) < 2 ^ (2 ^ suc k - 2 ^ i)
below_more i k h before =
    let double : 2 ^ suc k ≡ 2 ^ k * 2 = pow-suc 2 k in
    let less : 2 ^ i < 2 ^ k = pow_below i k h in
    let f : 2 ^ suc k - 2 ^ i ≡ (2 ^ k - 2 ^ i) + 2 ^ k = omega arith in
    let mono : 2 ^ (2 ^ k - 2 ^ i) ≤ 2 ^ 2 ^ k = pow_mono (omega arith) in
    rw (low_halves-more i k h, f, pow-add 2 (2 ^ k - 2 ^ i) (2 ^ k))
    (both_below (low_halves i k) (2 ^ (2 ^ k - 2 ^ i)) (2 ^ 2 ^ k) before (omega arith))

low_halves-below : (i k : ℕ) → i < k → low_halves i k < 2 ^ (2 ^ k - 2 ^ i)
low_halves-below i zero l = absurd (omega arith)
low_halves-below i (suc k) l =
    elim (eqb_tells i k) [
      | inl e ↦ below_top i k e.1
      | inr e ↦ let h : i < k = omega arith in below_more i k h (low_halves-below i k h)
    ]

halves_at : (h d b m x y : ℕ) → d + b ≡ h → m < 2 ^ d → y < 2 ^ h
    → summed b (m * 2 ^ h + m) (x * 2 ^ h + y) ≡ summed b m x * 2 ^ h + summed b m y
halves_at h d b m x y e q r = rw (← e) (halves d b m x y q (rw e r))

pub sums-below : (i k x : ℕ) → i ≤ k → x < 2 ^ 2 ^ k → sums i k x < 2 ^ 2 ^ k
sums-below zero k x l h = h
sums-below (suc i) k x l h =
    let less : 2 ^ i < 2 ^ k = pow_below i k l in
    let e : 2 ^ k - 2 ^ i + 2 ^ i ≡ 2 ^ k = omega arith in
    rw e at (summed-below (2 ^ k - 2 ^ i) (2 ^ i) (low_halves i k) (sums i k x) (low_halves-below i k l) (pow_pos i))

sums-halves : (i k x y : ℕ) → i ≤ k → x < 2 ^ 2 ^ k → y < 2 ^ 2 ^ k
    → sums i (suc k) (x * 2 ^ 2 ^ k + y) ≡ sums i k x * 2 ^ 2 ^ k + sums i k y
sums-halves zero k x y l p q = refl
sums-halves (suc i) k x y l p q =
    let less : 2 ^ i < 2 ^ k = pow_below i k l in
    let e : 2 ^ k - 2 ^ i + 2 ^ i ≡ 2 ^ k = omega arith in
    let b : i ≤ k = omega arith in
    rw (sums-halves i k x y b p q, low_halves-more i k l)
    (halves_at (2 ^ k) (2 ^ k - 2 ^ i) (2 ^ i) (low_halves i k) (sums i k x) (sums i k y) e (low_halves-below i k l) (sums-below i k y b q))

pub sums-ones : (k x : ℕ) → x < 2 ^ 2 ^ k → sums k k x ≡ ones x
unfolding ones ones_in
sums-ones zero zero h = refl
sums-ones zero (suc zero) h = refl
sums-ones zero (suc (suc x)) h = absurd (omega arith)
sums-ones (suc k) x h =
    let e : 2 ^ suc k ≡ 2 ^ k + 2 ^ k = rw pow-suc (omega arith) in
    let u : ℕ = x / 2 ^ 2 ^ k in
    let v : ℕ = x % 2 ^ 2 ^ k in
    let d : u * 2 ^ 2 ^ k + v ≡ x = div-add-mod' x (2 ^ 2 ^ k) in
    let p : u < 2 ^ 2 ^ k = shr_below x (2 ^ k) (2 ^ k) (rw e at h) in
    let q : v < 2 ^ 2 ^ k = mod-lt x (pow_pos (2 ^ k)) in
    let f : sums k (suc k) (u * 2 ^ 2 ^ k + v) ≡ sums k k u * 2 ^ 2 ^ k + sums k k v = sums-halves k k u v (le_refl k) p q in
    rw (
      ← d,
      f,
      low_halves-top k,
      last (2 ^ k) (sums k k u) (sums k k v) (sums-below k k u (le_refl k) p)
          (sums-below k k v (le_refl k) q),
      sums-ones k u p,
      sums-ones k v q,
    )
    (sym (ones_cat (2 ^ k) u v q))

-- ---- the last stages at once: the highest byte of a product is the sum of all bytes

-- two bytes after the first three stages
record Pair (y n : ℕ) : Type 0 where
  high : ℕ
  low : ℕ
  high-few : high ≤ 8
  low-few : low ≤ 8
  are : y ≡ high * 256 + low
  sum : n ≡ high + low

pair_at : (x : ℕ) → x < 2 ^ 16 → Pair (sums 3 4 x) (ones x)
pair_at x h =
    let d : x / 2 ^ 8 * 2 ^ 8 + x % 2 ^ 8 ≡ x = div-add-mod' x (2 ^ 8) in
    let p : x / 2 ^ 8 < 2 ^ 8 = shr_below x 8 8 h in
    let q : x % 2 ^ 8 < 2 ^ 8 = mod-lt x (pow_pos 8) in
    let f : sums 3 4 (x / 2 ^ 8 * 2 ^ 8 + x % 2 ^ 8) ≡ sums 3 3 (x / 2 ^ 8) * 2 ^ 8 + sums 3 3 (x % 2 ^ 8) = sums-halves 3 3 (x / 2 ^ 8)
    (x % 2 ^ 8) (omega arith) p q in
    record {
      high = ones (x / 2 ^ 8);
      low = ones (x % 2 ^ 8);
      high-few = ones-le 8 (x / 2 ^ 8) p;
      low-few = ones-le 8 (x % 2 ^ 8) q;
      are = ap (sums 3 4) (sym d)
          ∙ (f ∙ (ap (λ v. v * 2 ^ 8 + sums 3 3 (x % 2 ^ 8)) (sums-ones 3 (x / 2 ^ 8) p)
          ∙ ap (λ v. ones (x / 2 ^ 8) * 2 ^ 8 + v) (sums-ones 3 (x % 2 ^ 8) q)));
      sum = ap ones (sym d) ∙ ones_cat 8 (x / 2 ^ 8) (x % 2 ^ 8) q;
    }

gathered_pairs : (a b c d : ℕ) → a ≤ 8 → b ≤ 8 → c ≤ 8 → d ≤ 8
    → ((a * 256 + b) * 65536 + (c * 256 + d)) * 16843009 % 4294967296 / 16777216 ≡ a + b + (c + d)
gathered_pairs a b c d p q r s = omega arith

-- four bytes after the first three stages
record Four (y n : ℕ) : Type 0 where
  first : ℕ
  second : ℕ
  third : ℕ
  fourth : ℕ
  first-few : first ≤ 8
  second-few : second ≤ 8
  third-few : third ≤ 8
  fourth-few : fourth ≤ 8
  are : y ≡ (first * 256 + second) * 65536 + (third * 256 + fourth)
  sum : n ≡ first + second + (third + fourth)

four_at : (x : ℕ) → x < 2 ^ 32 → Four (sums 3 5 x) (ones x)
four_at x h =
    let d : x / 2 ^ 16 * 2 ^ 16 + x % 2 ^ 16 ≡ x = div-add-mod' x (2 ^ 16) in
    let p : x / 2 ^ 16 < 2 ^ 16 = shr_below x 16 16 h in
    let q : x % 2 ^ 16 < 2 ^ 16 = mod-lt x (pow_pos 16) in
    let f : sums 3 5 (x / 2 ^ 16 * 2 ^ 16 + x % 2 ^ 16) ≡ sums 3 4 (x / 2 ^ 16) * 2 ^ 16 + sums 3 4 (x % 2 ^ 16) = sums-halves 3 4
    (x / 2 ^ 16) (x % 2 ^ 16) (omega arith) p q in
    let u : Pair (sums 3 4 (x / 2 ^ 16)) (ones (x / 2 ^ 16)) = pair_at (x / 2 ^ 16) p in
    let v : Pair (sums 3 4 (x % 2 ^ 16)) (ones (x % 2 ^ 16)) = pair_at (x % 2 ^ 16) q in
    record {
      first = u.high;
      second = u.low;
      third = v.high;
      fourth = v.low;
      first-few = u.high-few;
      second-few = u.low-few;
      third-few = v.high-few;
      fourth-few = v.low-few;
      are = ap (sums 3 5) (sym d)
          ∙ (f ∙ (ap (λ w. w * 2 ^ 16 + sums 3 4 (x % 2 ^ 16)) u.are ∙ ap (λ w. (u.high * 256 + u.low) * 2 ^ 16 + w) v.are));
      sum = ap ones (sym d) ∙ (ones_cat 16 (x / 2 ^ 16) (x % 2 ^ 16) q
          ∙ (ap (λ w. w + ones (x % 2 ^ 16)) u.sum ∙ ap (λ w. u.high + u.low + w) v.sum));
    }

pub gathered_32 : (x : ℕ) → x < 2 ^ 32 → sums 3 5 x * 16843009 % 4294967296 / 16777216 ≡ ones x
gathered_32 x h =
    let u : Four (sums 3 5 x) (ones x) = four_at x h in
    ap (λ w. w * 16843009 % 4294967296 / 16777216) u.are
    ∙ (gathered_pairs u.first u.second u.third u.fourth u.first-few u.second-few u.third-few u.fourth-few ∙ sym u.sum)

gathered_fours : (a b c d e f g h : ℕ) → a ≤ 8 → b ≤ 8 → c ≤ 8 → d ≤ 8 → e ≤ 8 → f ≤ 8 → g ≤ 8 → h ≤ 8
    → (((a * 256 + b) * 65536 + (c * 256 + d)) * 4294967296 + ((e * 256 + f) * 65536 + (g * 256 + h))) * 72340172838076673
    % 18446744073709551616 / 72057594037927936 ≡ a + b + (c + d) + (e + f + (g + h))
gathered_fours a b c d e f g h i j k l m n o p = omega arith

pub gathered_64 : (x : ℕ) → x < 2 ^ 64 → sums 3 6 x * 72340172838076673 % 18446744073709551616 / 72057594037927936 ≡ ones x
gathered_64 x h =
    let d : x / 2 ^ 32 * 2 ^ 32 + x % 2 ^ 32 ≡ x = div-add-mod' x (2 ^ 32) in
    let p : x / 2 ^ 32 < 2 ^ 32 = shr_below x 32 32 h in
    let q : x % 2 ^ 32 < 2 ^ 32 = mod-lt x (pow_pos 32) in
    let f : sums 3 6 (x / 2 ^ 32 * 2 ^ 32 + x % 2 ^ 32) ≡ sums 3 5 (x / 2 ^ 32) * 2 ^ 32 + sums 3 5 (x % 2 ^ 32) = sums-halves 3 5
    (x / 2 ^ 32) (x % 2 ^ 32) (omega arith) p q in
    let u : Four (sums 3 5 (x / 2 ^ 32)) (ones (x / 2 ^ 32)) = four_at (x / 2 ^ 32) p in
    let v : Four (sums 3 5 (x % 2 ^ 32)) (ones (x % 2 ^ 32)) = four_at (x % 2 ^ 32) q in
    let are : sums 3 6 x ≡ ((u.first * 256 + u.second) * 65536 + (u.third * 256 + u.fourth)) * 4294967296
    + ((v.first * 256 + v.second) * 65536 + (v.third * 256 + v.fourth)) = ap (sums 3 6) (sym d)
    ∙ (f ∙ (ap (λ w. w * 2 ^ 32 + sums 3 5 (x % 2 ^ 32)) u.are
    ∙ ap (λ w. ((u.first * 256 + u.second) * 65536 + (u.third * 256 + u.fourth)) * 2 ^ 32 + w) v.are)) in
    let sum : ones x ≡ u.first + u.second + (u.third + u.fourth) + (v.first + v.second + (v.third + v.fourth)) = ap ones (sym d)
    ∙ (ones_cat 32 (x / 2 ^ 32) (x % 2 ^ 32) q ∙ (ap (λ w. w + ones (x % 2 ^ 32)) u.sum
    ∙ ap (λ w. u.first + u.second + (u.third + u.fourth) + w) v.sum)) in
    ap (λ w. w * 72340172838076673 % 18446744073709551616 / 72057594037927936) are
    ∙ (gathered_fours u.first u.second u.third u.fourth v.first v.second v.third v.fourth u.first-few u.second-few u.third-few u.fourth-few
    v.first-few v.second-few v.third-few v.fourth-few ∙ sym sum)
