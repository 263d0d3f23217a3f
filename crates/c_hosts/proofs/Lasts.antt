-- The last item of a list, which is replaced.
use Rattle.c_hosts.proofs.Common.{◌≡◌, ℕ, ◌+◌, ◌-◌, List, [], ◌∷◌, ◌++◌, length, slice_index_or, slice_set, ap, ◌∙◌, arith, length-append}
use Rattle.c_hosts.proofs.Common.{get_or-append_seam, set-append_seam}

module _ {A : Type 0} (items front : List A) (a : A) (n : ℕ) (are : items ≡ front ++ a ∷ []) (count : n ≡ length items) where
  place : n - 1 ≡ length front
  place = let e : length items ≡ length front + 1 = ap length are ∙ length-append front (a ∷ []) in omega (arith, e, count)

  pub last_is : (d : A) → slice_index_or items (n - 1) d ≡ a
  last_is d = ap (λ i. slice_index_or items i d) place ∙ ap (λ xs. slice_index_or xs (length front) d) are ∙ get_or-append_seam front a [] d

  pub last_set : (x : A) → slice_set items (n - 1) x ≡ front ++ x ∷ []
  last_set x = ap (λ i. slice_set items i x) place ∙ ap (λ xs. slice_set xs (length front) x) are ∙ set-append_seam front a [] x
