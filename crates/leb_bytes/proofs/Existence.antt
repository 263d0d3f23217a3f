-- Each number of a width has a shortest spelling.
use Rattle.leb_bytes.proofs.Common.{◌≡◌, ℕ, zero, suc, ◌+◌, ◌-◌, ◌*◌, ◌/◌, ◌%◌, ◌^◌, ◌<◌, ◌≤◌, ◌⊎◌, List, [], ◌∷◌, length, ℤ, pos, negsuc}
use Rattle.leb_bytes.proofs.Common.{◌-ℤ◌, sym, refl, ap, ◌∙◌, inl, inr, arith, pow_mono, cases_lt, ints, IsNumberRun, SpellsSigned}
use Rattle.leb_bytes.proofs.Common.{SpellsUnsigned, most_bytes, seven_bit_sum, signed_sum, InRange, IsRunOf, IsShortest}
use Rattle.leb_bytes.proofs.Fits.{half, signed_sum-high, signed_sum-low}
use Rattle.leb_bytes.proofs.Runs.{power}
use Rattle.leb_bytes.proofs.ShortestLemmas.{signed_shortest, unsigned_shortest}

-- ---- a run of a length

-- one byte more than k
spell : ℕ → ℕ → List ℕ
spell zero n = n % 128 ∷ []
spell (suc k) n = (128 + n % 128) ∷ spell k (n / 128)

spell-run : (k n : ℕ) → IsNumberRun (spell k n)
unfolding spell
spell-run zero n = omega arith
spell-run (suc zero) n = (omega arith, spell-run zero (n / 128))
spell-run (suc (suc k)) n = (omega arith, spell-run (suc k) (n / 128))

length-spell : (k n : ℕ) → length (spell k n) ≡ suc k
unfolding spell
length-spell zero n = refl
length-spell (suc k) n = omega (arith, length-spell k (n / 128))

seven_bit_sum-spell : (k n : ℕ) → n < 2 ^ (7 * suc k) → seven_bit_sum (spell k n) ≡ n
unfolding spell
seven_bit_sum-spell zero n lt = omega (arith, power 0)
seven_bit_sum-spell (suc k) n lt =
    let h = seven_bit_sum-spell k (n / 128) (omega (arith, power (suc k))) in
    omega (arith, h)

-- ---- the least length

least : (P : ℕ → Type 0) → ((k : ℕ) → P k ⊎ (P k → ⊥)) → ((j k : ℕ) → j ≤ k → P j → P k) → (m : ℕ) → P (suc m)
    → (k : ℕ) × P (suc k) × (k ≤ m) × ((j : ℕ) → 0 < j → P j → suc k ≤ j)
least P decide more zero p = (0, p, omega arith, λ j some _. omega arith)
least P decide more (suc m) p = elim (decide (suc m)) [
  | inl here ↦ let l = least P decide more m here in (l.0, l.1, omega (arith, l.2), l.3)
  | inr none ↦ (
    suc m,
    p,
    omega arith,
    λ j some q. elim (cases_lt j (suc (suc m))) [ inl less ↦ absurd (none (more j (suc m) (omega (arith, less)) q)) | inr past ↦ past ],
  )
]

holds : (n k : ℕ) → (n < 2 ^ (7 * k)) ⊎ (n < 2 ^ (7 * k) → ⊥)
holds n k = elim (cases_lt n (2 ^ (7 * k))) [ inl less ↦ inl less | inr past ↦ inr (λ lt. omega (arith, lt, past)) ]

holds-more : (n j k : ℕ) → j ≤ k → n < 2 ^ (7 * j) → n < 2 ^ (7 * k)
holds-more n j k le lt = let p : 2 ^ (7 * j) ≤ 2 ^ (7 * k) = pow_mono {i = 7 * j} {j = 7 * k} (omega (arith, le)) in omega (arith, p, lt)

-- so many bytes hold each number of the width
most-enough : (width : ℕ) → 0 < width → width ≤ 7 * suc (most_bytes width - 1)
most-enough width wide = omega (arith, wide)

pub shortest_unsigned : (width n : ℕ) → 0 < width → n < 2 ^ width → (bytes : List ℕ) × IsShortest (SpellsUnsigned width) bytes n
shortest_unsigned width n wide fits =
    let m = most_bytes width - 1 in
    let room : 2 ^ width ≤ 2 ^ (7 * suc m) = pow_mono {i = width} {j = 7 * suc m} (most-enough width wide) in
    let l = least (λ k. n < 2 ^ (7 * k)) (holds n) (holds-more n) m (omega (arith, room, fits)) in
    let k = l.0 in
    let bytes = spell k n in
    let r : IsRunOf (suc k) bytes n =
    record { run = spell-run k n; short = omega (arith, length-spell k n); value = sym (seven_bit_sum-spell k n l.1) } in
    (bytes, unsigned_shortest width n (suc k) bytes r fits (omega (arith, wide, l.2)) l.3)

-- ---- with a sign

-- what a number's bits say besides its sign
beyond_sign : ℤ → ℕ
beyond_sign (pos n) = n
beyond_sign (negsuc n) = n

below-in_range : (width : ℕ) (n : ℤ) → beyond_sign n < 2 ^ (width - 1) → InRange width n
unfolding beyond_sign
below-in_range width (pos n) lt = record { low = omega (arith, ints); high = omega (arith, ints, lt) }
below-in_range width (negsuc n) lt = record { low = omega (arith, ints, lt); high = omega (arith, ints) }

in_range-below : (width : ℕ) (n : ℤ) → InRange width n → beyond_sign n < 2 ^ (width - 1)
unfolding beyond_sign
in_range-below width (pos n) r = omega (arith, ints, r.high)
in_range-below width (negsuc n) r = omega (arith, ints, r.low)

in_range : (n : ℤ) (k : ℕ) → InRange (7 * k) n ⊎ (InRange (7 * k) n → ⊥)
in_range n k = elim (cases_lt (beyond_sign n) (2 ^ (7 * k - 1))) [
  | inl less ↦ inl (below-in_range (7 * k) n less)
  | inr past ↦ inr (λ r. omega (arith, past, in_range-below (7 * k) n r))
]

in_range-wider : (width wider : ℕ) (n : ℤ) → width ≤ wider → InRange width n → InRange wider n
in_range-wider width wider n le r =
    let p : 2 ^ (width - 1) ≤ 2 ^ (wider - 1) = pow_mono {i = width - 1} {j = wider - 1} (omega (arith, le)) in
    below-in_range wider n (omega (arith, p, in_range-below width n r))

-- the bits of a number in range
pattern : (k : ℕ) (n : ℤ) → 0 < k → InRange (7 * k) n → (s : ℕ) × (s < 2 ^ (7 * k)) × (n ≡ signed_sum k s)
unfolding beyond_sign
pattern k (pos n) some r =
    let below = in_range-below (7 * k) (pos n) r in
    (n, omega (arith, below, half k some), sym (signed_sum-low k n below))
pattern k (negsuc n) some r =
    let below = in_range-below (7 * k) (negsuc n) r in
    let h = half k some in
    let T = 2 ^ (7 * k) in
    let e : negsuc n ≡ pos (T - suc n) -ℤ pos T = omega (arith, ints, below, h) in
    (T - suc n, omega (arith, below, h), e ∙ sym (signed_sum-high k (T - suc n) (omega (arith, below, h))))

pub shortest_signed : (width : ℕ) (n : ℤ) → 0 < width → InRange width n → (bytes : List ℕ) × IsShortest (SpellsSigned width) bytes n
shortest_signed width n wide fits =
    let m = most_bytes width - 1 in
    let l = least (λ k. InRange (7 * k) n) (in_range n) (λ j k le r. in_range-wider (7 * j) (7 * k) n (omega (arith, le)) r) m
    (in_range-wider width (7 * suc m) n (most-enough width wide) fits) in
    let k = l.0 in
    let p = pattern (suc k) n (omega arith) l.1 in
    let bytes = spell k p.0 in
    let sum : seven_bit_sum bytes ≡ p.0 = seven_bit_sum-spell k p.0 p.1 in (
      bytes,
      signed_shortest width (suc k) n bytes (spell-run k p.0) (length-spell k p.0) (p.2 ∙ ap (signed_sum (suc k)) (sym sum)) fits
          (omega (arith, wide, l.2)) l.3,
    )
