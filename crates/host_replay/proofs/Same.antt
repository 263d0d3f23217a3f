-- Lists with the same items.
use Rattle.std.proofs.Common.{◌≡◌, ◌<◌, ℕ, zero, suc, ◌+◌, List, [], ◌∷◌, length, take, slice_index_or, refl, sym, ap, ◌∙◌, arith, add-one}

module _ {A : Type 0} where
  pub more : (xs ys : List A) (k : ℕ) (d e : A) → k < length xs → length xs ≡ length ys → take k xs ≡ take k ys
      → slice_index_or xs k d ≡ slice_index_or ys k e → take (k + 1) xs ≡ take (k + 1) ys
  more xs ys k d e within same so_far next =
      ap (λ n. take n xs) (add-one k) ∙ by_recursion xs ys k within same so_far next ∙ ap (λ n. take n ys) (sym (add-one k))
    where
      by_recursion : (xs ys : List A) (k : ℕ) → k < length xs → length xs ≡ length ys → take k xs ≡ take k ys
          → slice_index_or xs k d ≡ slice_index_or ys k e → take (suc k) xs ≡ take (suc k) ys
      by_recursion [] ys k within same so_far next = absurd (omega (arith, within))
      by_recursion (x ∷ xs) [] k within same so_far next = absurd (omega (arith, same))
      by_recursion (x ∷ xs) (y ∷ ys) zero within same so_far next = (λ i. next i ∷ [])
      by_recursion (x ∷ xs) (y ∷ ys) (suc k) within same so_far next =
          let first : x ≡ y = cc in
          let rest : take k xs ≡ take k ys = cc in
          λ i. first i ∷ by_recursion xs ys k (omega (arith, within)) (omega (arith, same)) rest next i

  pub differ : (xs ys : List A) (k : ℕ) (d e : A) → k < length xs → xs ≡ ys → (slice_index_or xs k d ≡ slice_index_or ys k e → ⊥) → ⊥
  differ xs ys k d e within same other = other (at xs k within ∙ ap (λ l. slice_index_or l k e) same)
    where
      at : (xs : List A) (k : ℕ) → k < length xs → slice_index_or xs k d ≡ slice_index_or xs k e
      at [] k within = absurd (omega (arith, within))
      at (x ∷ xs) zero within = refl
      at (x ∷ xs) (suc k) within = at xs k (omega (arith, within))
