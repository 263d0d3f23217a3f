-- Which sums are numbers of a width: by their bits, and by their range.
use Rattle.leb_bytes.proofs.Common.{◌≡◌, ℕ, zero, suc, ◌+◌, ◌-◌, ◌*◌, ◌/◌, ◌^◌, ◌<◌, ◌≤◌, cond, ◌≢◌, pos, ◌-ℤ◌, ◌≤ℤ◌, ◌<ℤ◌, sym, ap, ◌∙◌}
use Rattle.leb_bytes.proofs.Common.{subst, inl, inr, lt_of_mul-lt-mul_right, div-mul-le_self, arith, pow_pos, pow_mono, pow-add, le-ltb}
use Rattle.leb_bytes.proofs.Common.{lt-ltb, cases_lt, ints, most_bytes, signed_sum, InRange}
use Rattle.std.proofs.Math.Nat.{div-eq_of_lt, lt-div-mul-add}

-- ---- quotients

pub div-zero_below : (s w : ℕ) → 0 < w → s / w ≡ 0 → s < w
div-zero_below s w p e =
    let h : s < s / w * w + w = lt-div-mul-add {a = s} {b = w} p in
    let g : s < 0 * w + w = subst (λ q. s < q * w + w) e h in
    omega (arith, g)

pub below-div_zero : (s w : ℕ) → s < w → s / w ≡ 0
below-div_zero s w lt = div-eq_of_lt lt

-- a sum below r times w with the greatest quotient is near that product, and the other way round
near_top : (s w r : ℕ) → 0 < w → 0 < r → s / w ≡ r - 1 → r * w ≤ s + w
near_top s w zero p q e = absurd (omega (arith, q))
near_top s w (suc r) p q e =
    let e' : s / w ≡ r = omega (arith, e) in
    let h : r * w ≤ s = subst (λ x. x * w ≤ s) e' (div-mul-le_self s w) in
    omega (arith, h)

top_quotient : (s w r : ℕ) → 0 < w → s < r * w → r * w ≤ s + w → s / w ≡ r - 1
top_quotient s w r p lt le =
    let low : s / w * w ≤ s = div-mul-le_self s w in
    let high : s < s / w * w + w = lt-div-mul-add {a = s} {b = w} p in
    let below : s / w < r = lt_of_mul-lt-mul_right w {m = s / w} {n = r} (omega (arith, low, lt)) in
    let above : r < s / w + 2 = lt_of_mul-lt-mul_right w {m = r} {n = s / w + 2} (omega (arith, high, le)) in
    omega (arith, below, above)

-- ---- the signed reading

pub half : (k : ℕ) → 0 < k → 2 ^ (7 * k) ≡ 2 * 2 ^ (7 * k - 1)
half k some = let e : 7 * k ≡ 1 + (7 * k - 1) = omega (arith, some) in ap (λ n. 2 ^ n) e ∙ pow-add 2 1 (7 * k - 1)

pub signed_sum-low : (k s : ℕ) → s < 2 ^ (7 * k - 1) → signed_sum k s ≡ pos s
signed_sum-low k s lt = ap (λ b. cond b (pos s) (pos s -ℤ pos (2 ^ (7 * k)))) (lt-ltb s (2 ^ (7 * k - 1)) lt)

pub signed_sum-high : (k s : ℕ) → 2 ^ (7 * k - 1) ≤ s → signed_sum k s ≡ pos s -ℤ pos (2 ^ (7 * k))
signed_sum-high k s le = ap (λ b. cond b (pos s) (pos s -ℤ pos (2 ^ (7 * k)))) (le-ltb s (2 ^ (7 * k - 1)) le)

-- the bits from the sign's on are neither all 0 nor all 1
pub record Unlike (width k s : ℕ) : Type 0 where
  pub set : s / 2 ^ (width - 1) ≢ 0
  pub clear : s / 2 ^ (width - 1) ≢ 2 ^ (7 * k - (width - 1)) - 1

pub in_range_low : (width k s : ℕ) → s < 2 ^ (7 * k - 1) → s < 2 ^ (width - 1) → InRange width (signed_sum k s)
in_range_low width k s lt fits =
    let e = signed_sum-low k s lt in
    let W = 2 ^ (width - 1) in
    let low : (pos 0 -ℤ pos W) ≤ℤ pos s = omega (arith, ints) in
    let high : pos s <ℤ pos W = omega (arith, ints, fits) in
    record { low = subst (λ n. (pos 0 -ℤ pos W) ≤ℤ n) (sym e) low; high = subst (λ n. n <ℤ pos W) (sym e) high }

pub in_range_high : (width k s : ℕ) → 2 ^ (7 * k - 1) ≤ s → s < 2 ^ (7 * k) → 2 ^ (7 * k) ≤ s + 2 ^ (width - 1)
    → InRange width (signed_sum k s)
in_range_high width k s le lt fits =
    let e = signed_sum-high k s le in
    let W = 2 ^ (width - 1) in
    let T = 2 ^ (7 * k) in
    let low : (pos 0 -ℤ pos W) ≤ℤ (pos s -ℤ pos T) = omega (arith, ints, fits) in
    let high : (pos s -ℤ pos T) <ℤ pos W = omega (arith, ints, lt) in
    record { low = subst (λ n. (pos 0 -ℤ pos W) ≤ℤ n) (sym e) low; high = subst (λ n. n <ℤ pos W) (sym e) high }

-- fewer than the most bytes always fit
pub in_range_short : (width k s : ℕ) → 0 < k → k < most_bytes width → s < 2 ^ (7 * k) → InRange width (signed_sum k s)
in_range_short width k s some short lt =
    let room : 2 ^ (7 * k) ≤ 2 ^ (width - 1) = pow_mono {i = 7 * k} {j = width - 1} (omega (arith, short)) in
    elim (cases_lt s (2 ^ (7 * k - 1))) [
      | inl low ↦ in_range_low width k s low (omega (arith, lt, room))
      | inr high ↦ in_range_high width k s high lt (omega (arith, room))
    ]

rows : (width k : ℕ) → width ≤ 7 * k → 2 ^ (7 * k - (width - 1)) * 2 ^ (width - 1) ≡ 2 ^ (7 * k)
rows width k within =
    let e : 7 * k - (width - 1) + (width - 1) ≡ 7 * k = omega (arith, within) in
    sym (pow-add 2 (7 * k - (width - 1)) (width - 1)) ∙ ap (λ n. 2 ^ n) e

-- with the most bytes a number out of range has bits unlike its sign
pub unlike_from : (width k s : ℕ) → 0 < k → 0 < width → width ≤ 7 * k → s < 2 ^ (7 * k) → (InRange width (signed_sum k s) → ⊥)
    → Unlike width k s
unlike_from width k s some wide within lt out =
    let W = 2 ^ (width - 1) in
    let R = 2 ^ (7 * k - (width - 1)) in
    let p : 0 < W = pow_pos (width - 1) in
    let room : W ≤ 2 ^ (7 * k - 1) = pow_mono {i = width - 1} {j = 7 * k - 1} (omega (arith, within, wide)) in
    let h = half k some in
    record {
      set = λ e. let below : s < W = div-zero_below s W p e in out (in_range_low width k s (omega (arith, below, room)) below);
      clear = λ e.
          let top : R * W ≤ s + W = near_top s W R p (pow_pos (7 * k - (width - 1))) e in
          let le : 2 ^ (7 * k) ≤ s + W = subst (λ n. n ≤ s + W) (rows width k within) top in
          out (in_range_high width k s (omega (arith, le, h, room)) lt le);
    }

-- and a number in range has none
pub in_range_unlike : (width k s : ℕ) → width ≤ 7 * k → s < 2 ^ (7 * k) → InRange width (signed_sum k s) → Unlike width k s → ⊥
in_range_unlike width k s within lt fits bits =
    let W = 2 ^ (width - 1) in
    let T = 2 ^ (7 * k) in
    let R = 2 ^ (7 * k - (width - 1)) in
    let p : 0 < W = pow_pos (width - 1) in
    elim (cases_lt s (2 ^ (7 * k - 1))) [
      | inl low ↦
          let h : pos s <ℤ pos W = subst (λ n. n <ℤ pos W) (signed_sum-low k s low) fits.high in
          let below : s < W = omega (arith, ints, h) in
          bits.set (below-div_zero s W below)
      | inr high ↦
          let h : (pos 0 -ℤ pos W) ≤ℤ (pos s -ℤ pos T) = subst (λ n. (pos 0 -ℤ pos W) ≤ℤ n) (signed_sum-high k s high) fits.low in
          let le : T ≤ s + W = omega (arith, ints, h) in
          let r = rows width k within in
          bits.clear (top_quotient s W R p (subst (λ n. s < n) (sym r) lt) (subst (λ n. n ≤ s + W) (sym r) le))
    ]
