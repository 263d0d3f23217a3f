-- Lists whose items are each given by a function.
use Rattle.crun_words.proofs.Common.{◌≡◌, ℕ, zero, suc, ◌+◌, List, [], ◌∷◌, ◌++◌, map, take, slice_get, Some, None, Option, sym, refl, ap}
use Rattle.crun_words.proofs.Common.{◌∙◌, map_push, same_Some, same_parts, take_next}

module _ {A B : Type 0} (f : A → Option B) where
  abbrev Gives : List A → List B → Type 0
  Gives xs ys = map f xs ≡ map (λ y. Some y) ys

  -- one more item
  pub one_more : (xs : List A) (k : ℕ) (x : A) (ys new : List B) (y : B) → slice_get xs k ≡ Some x → Gives (take k xs) ys → f x ≡ Some y
      → new ≡ ys ++ y ∷ [] → Gives (take (k + 1) xs) new
  one_more xs k x ys new y at so_far is pushed =
      ap (map f) (take_next xs k x at) ∙ map_push f (take k xs) x ∙ (λ i. so_far i ++ is i ∷ [])
      ∙ sym (map_push (λ y. Some y) ys y) ∙ ap (map (λ y. Some y)) (sym pushed)

  -- an item for which nothing is given
  pub not_given : (xs : List A) (k : ℕ) (x : A) (ys : List B) → slice_get xs k ≡ Some x → f x ≡ None → Gives xs ys → ⊥
  not_given (z ∷ xs) zero x (y ∷ ys) at none gives =
      let head : f z ≡ Some y = (same_parts (f z) (Some y) (map f xs) (map (λ y. Some y) ys) gives).0 in
      let both : ◌≡◌ {A = Option B} None (Some y) = sym none ∙ ap f (sym (same_Some z x at)) ∙ head in
      cc
  not_given (z ∷ xs) (suc k) x (y ∷ ys) at none gives =
      not_given xs k x ys at none (same_parts (f z) (Some y) (map f xs) (map (λ y. Some y) ys) gives).1
  not_given _ k x _ at none gives = cc

pub same_items : {B : Type 0} (ys zs : List B) → map (λ y. Some y) ys ≡ map (λ y. Some y) zs → ys ≡ zs
same_items [] [] e = refl
same_items (y ∷ ys) (z ∷ zs) e =
    let parts = same_parts (Some y) (Some z) (map (λ y. Some y) ys) (map (λ y. Some y) zs) e in
    λ i. same_Some y z parts.0 i ∷ same_items ys zs parts.1 i
same_items _ _ e = absurd (cc)
