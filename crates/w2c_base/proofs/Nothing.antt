-- Lists of which some part, or what a function makes of them, is empty; and what two lists that are one begin with.
use Rattle.std.proofs.Common.{◌≡◌, ℕ, zero, suc, List, [], ◌∷◌, ◌++◌, map, flat_map, Some, None, slice_get, refl, sym, ap, ◌∙◌}

pub same_parts : {A : Type 0} (x y : A) (xs ys : List A) → x ∷ xs ≡ y ∷ ys → (x ≡ y) × (xs ≡ ys)
same_parts x y xs ys e = (cc, cc)

pub append_none : {A : Type 0} (xs ys : List A) → xs ++ ys ≡ [] → (xs ≡ []) × (ys ≡ [])
append_none [] ys e = (refl, e)
append_none (x ∷ xs) ys e = absurd cc

pub none_first : {A : Type 0} (xs : List A) → slice_get xs 0 ≡ None → xs ≡ []
none_first [] e = refl
none_first (x ∷ xs) e = absurd cc

pub map_none : {A B : Type 0} (f : A → B) (xs : List A) → map f xs ≡ [] → xs ≡ []
map_none f [] e = refl
map_none f (x ∷ xs) e = absurd cc

-- ---- what a function makes of each, joined

pub none_at : {A B : Type 0} (f : A → List B) (xs : List A) (i : ℕ) (x : A) → flat_map f xs ≡ [] → slice_get xs i ≡ Some x → f x ≡ []
none_at f [] i x e at = absurd cc
none_at f (y ∷ xs) zero x e at =
    let same : y ≡ x = cc in
    ap f (sym same) ∙ (append_none (f y) (flat_map f xs) e).0
none_at f (y ∷ xs) (suc i) x e at = none_at f xs i x (append_none (f y) (flat_map f xs) e).1 at

pub flat_empty : {A B : Type 0} (f : A → List B) (xs : List A) → ((i : ℕ) (x : A) → slice_get xs i ≡ Some x → f x ≡ []) → flat_map f xs ≡ []
flat_empty f [] each = refl
flat_empty f (x ∷ xs) each = λ i. each 0 x refl i ++ flat_empty f xs (λ j y at. each (suc j) y at) i
