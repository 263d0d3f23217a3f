-- Loops over a list that look for the first of what its items give.
use Rattle.c_link.proofs.Common.{◌≡◌, ℕ, ◌+◌, ◌≤◌, List, [], ◌∷◌, map, length, drop, slice_get, Some, None, Option, sym, ap, ◌∙◌, drop_all}
use Rattle.c_link.proofs.Common.{length-map, option_or, numbered_past, drop_front, numbered, IsRefusal}
use Rattle.c_meaning.specs.Linking as linking
use Rattle.c_link.specs.declared.refusal.LinkRefusal.{LinkRefusal}
use Rattle.c_link.specs.declared.refusal.LinkRefusal.TheVariants as refusal

-- the first of what the items of a list give
abbrev pub first_of : {A B : Type 0} → (A → Option B) → List A → Option B
first_of f [] = None
first_of f (x ∷ xs) = option_or (f x) (first_of f xs)

-- what is left from an item on has the same first as the whole
module _ {A B : Type 0} (f : A → Option B) (xs : List A) (i : ℕ) where
  abbrev pub Left : Type 0
  Left = first_of f (drop i xs) ≡ first_of f xs

  pub left_end : drop i xs ≡ [] → Left → first_of f xs ≡ None
  left_end past left = sym left ∙ ap (first_of f) past

  module _ (x : A) (at : slice_get xs i ≡ Some x) where
    pub left_first : Left → first_of f xs ≡ option_or (f x) (first_of f (drop (i + 1) xs))
    left_first left = sym left ∙ ap (first_of f) (drop_front xs i x at)

    pub left_more : f x ≡ None → Left → first_of f (drop (i + 1) xs) ≡ first_of f xs
    left_more none left = sym (left_first left ∙ ap (λ o. option_or o (first_of f (drop (i + 1) xs))) none)

-- a refusal of the first part is one of the whole
pub refused : (r : LinkRefusal) (first rest whole : Option linking.LinkRefusal) → whole ≡ option_or first rest → IsRefusal r first
    → IsRefusal r whole
refused refusal.Memory first rest whole is e = tt
refused _ first rest whole is e = is ∙ ap (λ o. option_or o rest) e

-- ---- the items of a unit, and the units with their numbers

pub items_end : {A B C : Type 0} (view : A → B) (f : B → Option C) (xs : List A) (i : ℕ) → length xs ≤ i
    → first_of f (drop i (map view xs)) ≡ first_of f (map view xs) → first_of f (map view xs) ≡ None
items_end view f xs i past left = left_end f (map view xs) i (drop_all i (map view xs) (rw length-map past)) left

pub units_end : {A B C : Type 0} (view : A → B) (f : ℕ × B → Option C) (xs : List A) (i : ℕ) → length xs ≤ i
    → first_of f (drop i (numbered (map view xs))) ≡ first_of f (numbered (map view xs)) → first_of f (numbered (map view xs)) ≡ None
units_end view f xs i past left = left_end f (numbered (map view xs)) i (numbered_past 0 (map view xs) i (rw length-map past)) left
