-- Runs of bytes: where one ends, and what its low seven bits sum up to.
use Rattle.leb_bytes.proofs.Common.{◌≡◌, ℕ, zero, suc, ◌+◌, ◌*◌, ◌%◌, ◌^◌, ◌<◌, ◌≤◌, List, [], ◌∷◌, ◌++◌, length, get_or, take, All, refl}
use Rattle.leb_bytes.proofs.Common.{ap, ◌∙◌, arith, pow-add, All-head, All-tail, IsNumberRun, seven_bit_sum, GoOn}

-- ---- sums

pub power : (k : ℕ) → 2 ^ (7 * suc k) ≡ 128 * 2 ^ (7 * k)
power k = let e : 7 * suc k ≡ 7 + 7 * k = omega arith in ap (λ n. 2 ^ n) e ∙ pow-add 2 7 (7 * k)

pub seven_bit_sum-below : (bytes : List ℕ) → seven_bit_sum bytes < 2 ^ (7 * length bytes)
seven_bit_sum-below [] = omega arith
seven_bit_sum-below (b ∷ bs) = let h = seven_bit_sum-below bs in let p = power (length bs) in omega (arith, h, p)

step : (p g : ℕ) → g * (128 * p) ≡ 128 * (g * p)
step p g = grind arith

-- the sum of one more byte
pub seven_bit_sum-more : (bytes : List ℕ) (i : ℕ) → i < length bytes
    → seven_bit_sum (take (suc i) bytes) ≡ seven_bit_sum (take i bytes) + get_or bytes i 0 % 128 * 2 ^ (7 * i)
seven_bit_sum-more [] i lt = absurd (omega (arith, lt))
seven_bit_sum-more (b ∷ bs) zero lt = omega arith
seven_bit_sum-more (b ∷ bs) (suc i) lt =
    let h = seven_bit_sum-more bs i (omega (arith, lt)) in
    let g = get_or bs i 0 % 128 in
    let e : g * 2 ^ (7 * suc i) ≡ 128 * (g * 2 ^ (7 * i)) = ap (λ x. g * x) (power i) ∙ step (2 ^ (7 * i)) g in
    omega (arith, h, e)

-- ---- where a run ends

-- bytes that go on, and one that ends them
pub IsNumberRun-from_go_on : (i : ℕ) (bytes : List ℕ) → GoOn (take i bytes) → i < length bytes → get_or bytes i 0 < 128
    → IsNumberRun (take (suc i) bytes)
IsNumberRun-from_go_on i [] go_on within last = absurd (omega (arith, within))
IsNumberRun-from_go_on zero (b ∷ bs) go_on within last = last
IsNumberRun-from_go_on (suc i) (b ∷ []) go_on within last = absurd (omega (arith, within))
IsNumberRun-from_go_on (suc i) (b ∷ c ∷ bs) go_on within last = (
  All-head (λ b. 128 ≤ b) b (take i (c ∷ bs)) go_on,
  IsNumberRun-from_go_on i (c ∷ bs) (All-tail (λ b. 128 ≤ b) b (take i (c ∷ bs)) go_on) (omega (arith, within)) last,
)

-- a run is no prefix of a longer one
pub IsNumberRun-append : (bytes more : List ℕ) → IsNumberRun bytes → IsNumberRun (bytes ++ more) → more ≡ []
IsNumberRun-append [] more r s = absurd r
IsNumberRun-append (b ∷ []) [] r s = refl
IsNumberRun-append (b ∷ []) (c ∷ more) r s = absurd (omega (arith, r, s.0))
IsNumberRun-append (b ∷ c ∷ bs) more r s = IsNumberRun-append (c ∷ bs) more r.1 s.1

pub IsNumberRun-some : (bytes : List ℕ) → IsNumberRun bytes → 0 < length bytes
IsNumberRun-some [] r = absurd r
IsNumberRun-some (b ∷ bs) r = omega arith

-- two runs of as many bytes and of one sum are one
pub seven_bit_sum-injective : (xs ys : List ℕ) → All (λ b. b < 256) xs → All (λ b. b < 256) ys → IsNumberRun xs → IsNumberRun ys
    → length xs ≡ length ys → seven_bit_sum xs ≡ seven_bit_sum ys → xs ≡ ys
seven_bit_sum-injective [] ys p q r s l e = absurd r
seven_bit_sum-injective (b ∷ bs) [] p q r s l e = absurd s
seven_bit_sum-injective (b ∷ []) (c ∷ []) p q r s l e = let h : b ≡ c = omega (arith, r, s, e) in ap (λ x. x ∷ []) h
seven_bit_sum-injective (b ∷ []) (c ∷ d ∷ ds) p q r s l e = absurd (omega (arith, l))
seven_bit_sum-injective (b ∷ x ∷ xs) (c ∷ []) p q r s l e = absurd (omega (arith, l))
seven_bit_sum-injective (b ∷ x ∷ xs) (c ∷ y ∷ ys) p q r s l e =
    let byte : ℕ → Type 0 = λ b. b < 256 in
    let rest =
    seven_bit_sum-injective (x ∷ xs) (y ∷ ys) (All-tail byte b (x ∷ xs) p) (All-tail byte c (y ∷ ys) q) r.1 s.1 (omega (arith, l))
    (omega (arith, e)) in
    let sums : seven_bit_sum (x ∷ xs) ≡ seven_bit_sum (y ∷ ys) = ap seven_bit_sum rest in
    let first : b ≡ c = omega (arith, All-head byte b (x ∷ xs) p, All-head byte c (y ∷ ys) q, r.0, s.0, e, sums) in
    ap (λ z. z ∷ x ∷ xs) first ∙ ap (λ zs. c ∷ zs) rest
