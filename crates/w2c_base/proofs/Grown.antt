-- Lists that a loop makes item by item.
use Rattle.std.proofs.Common.{◌≡◌, ℕ, zero, suc, ◌+◌, ◌<◌, List, [], ◌∷◌, ◌++◌, map, length, get_or, drop, flat_map, sym, refl, ap, ◌∙◌}
use Rattle.std.proofs.Common.{append_assoc}
use Rattle.std.proofs.lemmas.List.{drop_more}

-- what is read with another element in reserve
pub read_again : {A : Type 0} (xs : List A) (i : ℕ) (d : A) → get_or xs i d ≡ get_or xs i (get_or xs i d)
read_again [] i d = refl
read_again (y ∷ xs) zero d = refl
read_again (y ∷ xs) (suc i) d = read_again xs i d

module _ {X Y : Type 0} (list after whole : List Y) (items : List X) (i : ℕ) (x : X) (less : i < length items)
    (is : x ≡ get_or items i x) where
  here : x ∷ drop (i + 1) items ≡ drop i items
  here = ap (λ y. y ∷ drop (i + 1) items) is ∙ sym (drop_more items i x less)

  pub map_next : (f : X → Y) → after ≡ list ++ f x ∷ [] → list ++ map f (drop i items) ≡ whole
      → after ++ map f (drop (i + 1) items) ≡ whole
  map_next f grown so_far =
      ap (λ ys. ys ++ map f (drop (i + 1) items)) grown
      ∙ (append_assoc list (f x ∷ []) (map f (drop (i + 1) items))
      ∙ (ap (λ xs. list ++ map f xs) here
      ∙ so_far))

  pub flat_map_next : (f : X → List Y) → after ≡ list ++ f x → list ++ flat_map f (drop i items) ≡ whole
      → after ++ flat_map f (drop (i + 1) items) ≡ whole
  flat_map_next f grown so_far =
      ap (λ ys. ys ++ flat_map f (drop (i + 1) items)) grown
      ∙ (append_assoc list (f x) (flat_map f (drop (i + 1) items))
      ∙ (ap (λ xs. list ++ flat_map f xs) here
      ∙ so_far))
