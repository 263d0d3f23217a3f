-- The front of a list, seen through a view, with one item more.
use Rattle.wast_run.proofs.Common.{◌≡◌, ℕ, zero, suc, ◌+◌, ◌<◌, List, [], ◌∷◌, ◌++◌, map, length, get_or, take, drop, sym, ap, ◌∙◌}
use Rattle.wast_run.proofs.Common.{add-one, subst, arith, take-append-drop, length-take-le, drop-cons, take-suc, length-map, map-append}
use Rattle.wast_run.proofs.Common.{AllByRecursion}

pub mapped_front : {A B : Type 0} (view : A → B) (xs : List A) (k : ℕ) → k < length xs → length (take k (map view xs)) ≡ k
mapped_front view xs k less = length-take-le k (map view xs) (omega (arith, less, length-map xs view))

pub all_mapped_at : {A B : Type 0} (P : B → Type 0) (view : A → B) (xs : List A) (k : ℕ) (x : A) → k < length xs → x ≡ get_or xs k x
    → AllByRecursion P (map view xs) → P (view x)
all_mapped_at P view [] k x less at all = absurd (omega (arith, less))
all_mapped_at P view (y ∷ xs) zero x less at all = subst (λ z. P (view z)) (sym at) all.0
all_mapped_at P view (y ∷ xs) (suc k) x less at all = all_mapped_at P view xs k x (omega (arith, less)) at all.1

module _ {A B : Type 0} (f : A → B) (xs : List A) (k : ℕ) (d x : A) (less : k < length xs) (at : x ≡ get_or xs k d) where
  pub front_next : map f (take k xs) ++ f x ∷ [] ≡ map f (take (k + 1) xs)
  front_next = sym (map-append f (take k xs) (x ∷ []))
      ∙ ap (map f) (ap (λ y. take k xs ++ y ∷ []) at ∙ sym (take-suc xs k d less) ∙ ap (λ n. take n xs) (sym (add-one k)))

  pub front_split : map f (take k xs) ++ f x ∷ map f (drop (k + 1) xs) ≡ map f xs
  front_split = sym (map-append f (take k xs) (x ∷ drop (k + 1) xs))
      ∙ ap (map f) (ap (λ ys. take k xs ++ ys) (ap (λ y. y ∷ drop (k + 1) xs) at ∙ ap (λ n. get_or xs k d ∷ drop n xs) (add-one k)
      ∙ sym (drop-cons xs k d less)) ∙ take-append-drop k xs)

  pub front_count : length (map f (take k xs)) ≡ k
  front_count = length-map (take k xs) f ∙ length-take-le k xs (omega (arith, less))

-- of calls and a last one
module _ {B : Type 0} (P : B → Type 0) where
  pub all_before : (ys : List B) (y : B) → AllByRecursion P (ys ++ y ∷ []) → AllByRecursion P ys
  all_before [] y of_all = tt
  all_before (z ∷ ys) y (one, of_all) = (one, all_before ys y of_all)

  pub all_last : (ys : List B) (y : B) → AllByRecursion P (ys ++ y ∷ []) → P y
  all_last [] y of_all = of_all.0
  all_last (z ∷ ys) y (one, of_all) = all_last ys y of_all
