-- Lists with the places of their items.
use Rattle.std.proofs.Common.{◌≡◌, ℕ, zero, suc, ◌+◌, ◌≤◌, List, [], ◌∷◌, ◌++◌, length, zip, drop, Some, slice_get, refl, ap, ◌∙◌, arith}
use Rattle.std.specs.List.{range_with_len}
use Rattle.w2c_base.specs.Lookup.{numbered}

numbers_up : {A : Type 0} (a : ℕ) (xs : List A) (i : ℕ) (x : A) → slice_get xs i ≡ Some x
    → slice_get (zip (range_with_len a (length xs)) xs) i ≡ Some (a + i, x)
numbers_up a [] i x at = absurd cc
numbers_up a (y ∷ xs) zero x at =
    let same : y ≡ x = cc in
    let n : a ≡ a + 0 = omega arith in
    ap (λ z. Some (a, z)) same ∙ ap (λ m. Some (m, x)) n
numbers_up a (y ∷ xs) (suc i) x at =
    let n : (a + 1) + i ≡ a + suc i = omega arith in
    numbers_up (a + 1) xs i x at ∙ ap (λ m. Some (m, x)) n

pub numbered_at : {A : Type 0} (xs : List A) (i : ℕ) (x : A) → slice_get xs i ≡ Some x → slice_get (numbered xs) i ≡ Some (i, x)
numbered_at xs i x at = let e : 0 + i ≡ i = omega arith in numbers_up 0 xs i x at ∙ ap (λ n. Some (n, x)) e

pub numbered_past : {A : Type 0} (k : ℕ) (xs : List A) (i : ℕ) → length xs ≤ i → drop i (zip (range_with_len k (length xs)) xs) ≡ []
numbered_past k [] zero le = refl
numbered_past k [] (suc i) le = refl
numbered_past k (x ∷ xs) zero le = absurd (omega arith)
numbered_past k (x ∷ xs) (suc i) le = numbered_past (k + 1) xs i (omega arith)

pub numbered_many : {A : Type 0} (k : ℕ) (xs : List A) → length (zip (range_with_len k (length xs)) xs) ≡ length xs
numbered_many k [] = refl
numbered_many k (x ∷ xs) = ap suc (numbered_many (k + 1) xs)

-- ---- one item more

one_more : {A : Type 0} (k : ℕ) (xs : List A) (x : A)
    → zip (range_with_len k (length (xs ++ x ∷ []))) (xs ++ x ∷ []) ≡ zip (range_with_len k (length xs)) xs ++ (k + length xs, x) ∷ []
one_more k [] x = let e : k ≡ k + 0 = omega arith in ap (λ n. (n, x) ∷ []) e
one_more k (y ∷ xs) x =
    let e : k + 1 + length xs ≡ k + suc (length xs) = omega arith in
    ap (λ l. (k, y) ∷ l) (one_more (k + 1) xs x ∙ ap (λ n. zip (range_with_len (k + 1) (length xs)) xs ++ (n, x) ∷ []) e)

pub numbered_push : {A : Type 0} (xs : List A) (x : A) → numbered (xs ++ x ∷ []) ≡ numbered xs ++ (length xs, x) ∷ []
numbered_push xs x = one_more 0 xs x ∙ (let e : 0 + length xs ≡ length xs = omega arith in ap (λ n. numbered xs ++ (n, x) ∷ []) e)
