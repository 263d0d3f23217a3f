-- What stands at a place of lists that are joined.
use Rattle.unit_definition.proofs.Common.{◌≡◌, ℕ, zero, suc, ◌+◌, ◌-◌, List, [], ◌∷◌, ◌++◌, length, drop, slice_get, Some, None, option_map}
use Rattle.unit_definition.proofs.Common.{zip, refl, ap, ◌∙◌, arith, range_with_len}

-- behind it
pub in_second : {B : Type 0} (xs ys : List B) (n : ℕ) → slice_get xs n ≡ None → slice_get (xs ++ ys) n ≡ slice_get ys (n - length xs)
in_second [] ys n e = let none : n ≡ n - 0 = omega arith in ap (λ k. slice_get ys k) none
in_second (x ∷ xs) ys zero e = cc
in_second (x ∷ xs) ys (suc n) e =
    let less : n - length xs ≡ suc n - suc (length xs) = omega arith in
    in_second xs ys n e ∙ ap (λ k. slice_get ys k) less

-- of numbered lists
pub numbered_at : {A : Type 0} (k : ℕ) (xs : List A) (n : ℕ)
    → slice_get (zip (range_with_len k (length xs)) xs) n ≡ option_map (λ x. (k + n, x)) (slice_get xs n)
numbered_at k [] n = refl
numbered_at k (x ∷ xs) zero = let e : k ≡ k + 0 = omega arith in ap (λ m. Some (m, x)) e
numbered_at k (x ∷ xs) (suc n) =
    let e : (k + 1) + n ≡ k + suc n = omega arith in
    numbered_at (k + 1) xs n ∙ ap (λ m. option_map (λ y. (m, y)) (slice_get xs n)) e

pub past_all : {B : Type 0} (xs : List B) (n : ℕ) → slice_get xs n ≡ None → drop n xs ≡ []
past_all [] zero e = refl
past_all [] (suc n) e = refl
past_all (x ∷ xs) zero e = cc
past_all (x ∷ xs) (suc n) e = past_all xs n e
