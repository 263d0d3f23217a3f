-- The shortest spelling of a number is one, and has as few bytes as hold the number.
use Rattle.leb_bytes.proofs.Common.{◌≡◌, ℕ, ◌-◌, ◌*◌, ◌^◌, ◌<◌, ◌≤◌, List, length, ℤ, pos, ◌-ℤ◌, All, sym, ap, ◌∙◌, subst, inl, inr, arith}
use Rattle.leb_bytes.proofs.Common.{cases_lt, ints, IsNumberRun, SpellsSigned, SpellsUnsigned, most_bytes, seven_bit_sum, signed_sum}
use Rattle.leb_bytes.proofs.Common.{InRange, IsRunOf, IsShortest}
use Rattle.leb_bytes.proofs.Fits.{half, in_range_high, in_range_low, signed_sum-high, signed_sum-low}
use Rattle.leb_bytes.proofs.Runs.{IsNumberRun-some, seven_bit_sum-below, seven_bit_sum-injective}

same_length : {A : Type 0} (Spells : List ℕ → A → Type 0) (bytes other : List ℕ) (n : A) → IsShortest Spells bytes n
    → IsShortest Spells other n → length bytes ≡ length other
same_length Spells bytes other n a b = omega (arith, a.least other b.spells, b.least bytes a.spells)

pub one_shortest_unsigned : (width : ℕ) (bytes other : List ℕ) (n : ℕ) → All (λ b. b < 256) bytes → All (λ b. b < 256) other
    → IsShortest (SpellsUnsigned width) bytes n → IsShortest (SpellsUnsigned width) other n → bytes ≡ other
one_shortest_unsigned width bytes other n p q a b =
    seven_bit_sum-injective bytes other p q a.spells.run b.spells.run (same_length (SpellsUnsigned width) bytes other n a b)
    (sym a.spells.value ∙ b.spells.value)

-- the signed reading of so many bytes' sums fixes the sum
signed_sum-injective : (k s t : ℕ) → s < 2 ^ (7 * k) → t < 2 ^ (7 * k) → signed_sum k s ≡ signed_sum k t → s ≡ t
signed_sum-injective k s t ls lt e =
    let T = 2 ^ (7 * k) in
    elim (cases_lt s (2 ^ (7 * k - 1))) [
      | inl s_low ↦ elim (cases_lt t (2 ^ (7 * k - 1))) [
        | inl t_low ↦ let h : pos s ≡ pos t = sym (signed_sum-low k s s_low) ∙ e ∙ signed_sum-low k t t_low in omega (arith, ints, h)
        | inr t_high ↦ let h : pos s ≡ pos t -ℤ pos T =
            sym (signed_sum-low k s s_low) ∙ e ∙ signed_sum-high k t t_high in absurd (omega (arith, ints, h, lt))
      ]
      | inr s_high ↦ elim (cases_lt t (2 ^ (7 * k - 1))) [
        | inl t_low ↦ let h : pos s -ℤ pos T ≡ pos t =
            sym (signed_sum-high k s s_high) ∙ e ∙ signed_sum-low k t t_low in absurd (omega (arith, ints, h, ls))
        | inr t_high ↦ let h : pos s -ℤ pos T ≡ pos t -ℤ pos T =
            sym (signed_sum-high k s s_high) ∙ e ∙ signed_sum-high k t t_high in omega (arith, ints, h)
      ]
    ]

pub one_shortest_signed : (width : ℕ) (bytes other : List ℕ) (n : ℤ) → All (λ b. b < 256) bytes → All (λ b. b < 256) other
    → IsShortest (SpellsSigned width) bytes n → IsShortest (SpellsSigned width) other n → bytes ≡ other
one_shortest_signed width bytes other n p q a b =
    let l = same_length (SpellsSigned width) bytes other n a b in
    let e : signed_sum (length bytes) (seven_bit_sum bytes) ≡ signed_sum (length bytes) (seven_bit_sum other) =
    sym a.spells.value ∙ b.spells.value ∙ ap (λ k. signed_sum k (seven_bit_sum other)) (sym l) in
    let below : seven_bit_sum other < 2 ^ (7 * length bytes) =
    subst (λ k. seven_bit_sum other < 2 ^ (7 * k)) (sym l) (seven_bit_sum-below other) in
    seven_bit_sum-injective bytes other p q a.spells.run b.spells.run l
    (signed_sum-injective (length bytes) (seven_bit_sum bytes) (seven_bit_sum other) (seven_bit_sum-below bytes) below e)

-- ---- as few bytes as hold the number

pub unsigned_shortest : (width n count : ℕ) (bytes : List ℕ) → IsRunOf count bytes n → n < 2 ^ width → count ≤ most_bytes width
    → ((k : ℕ) → 0 < k → n < 2 ^ (7 * k) → count ≤ k) → IsShortest (SpellsUnsigned width) bytes n
unsigned_shortest width n count bytes r fits short least = record {
  spells = record { run = r.run; short = omega (arith, r.short, short); value = r.value; fits = fits };
  least = λ other s. omega (
    arith,
    r.short,
    least (length other) (IsNumberRun-some other s.run) (omega (arith, s.value, seven_bit_sum-below other)),
  );
}

-- what so many bytes spell is in their bits' range
pub signed_sum-in_range : (k s : ℕ) → 0 < k → s < 2 ^ (7 * k) → InRange (7 * k) (signed_sum k s)
signed_sum-in_range k s some lt =
    let h = half k some in
    let T = 2 ^ (7 * k - 1) in
    elim (cases_lt s T) [
      | inl low ↦ in_range_low (7 * k) k s low low
      | inr high ↦ in_range_high (7 * k) k s high lt (omega (arith, h, high))
    ]

pub signed_shortest : (width count : ℕ) (n : ℤ) (bytes : List ℕ) → IsNumberRun bytes → length bytes ≡ count
    → n ≡ signed_sum count (seven_bit_sum bytes) → InRange width n → count ≤ most_bytes width
    → ((k : ℕ) → 0 < k → InRange (7 * k) n → count ≤ k) → IsShortest (SpellsSigned width) bytes n
signed_shortest width count n bytes r l value fits short least = record {
  spells = record {
    run = r;
    short = omega (arith, l, short);
    value = value ∙ ap (λ k. signed_sum k (seven_bit_sum bytes)) (sym l);
    low = fits.low;
    high = fits.high;
  };
  least = λ other s.
      let some = IsNumberRun-some other s.run in
      let range : InRange (7 * length other) n =
      subst (InRange (7 * length other)) (sym s.value)
      (signed_sum-in_range (length other) (seven_bit_sum other) some (seven_bit_sum-below other)) in
      omega (arith, l, least (length other) some range);
}
