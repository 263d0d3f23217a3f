-- Loops that gather what the items of a list give.
use Rattle.crun_startup.proofs.Common.{◌≡◌, ℕ, zero, suc, ◌+◌, ◌<◌, ◌≤◌, List, [], ◌∷◌, ◌++◌, map, length, get_or, take, drop, slice_get}
use Rattle.crun_startup.proofs.Common.{Some, None, Option, flat_map, filter_map, sym, refl, ap, ◌∙◌, append_assoc, append-nil, add-one}
use Rattle.crun_startup.proofs.Common.{arith, drop_all, length-map, map-append, cons_option, range_with_len, numbered_at, numbered_past}
use Rattle.crun_startup.proofs.Common.{drop_front, mapped_at, seen_at, take_next, numbered}
use Rattle.std.proofs.lemmas.List.Elements.{filter_map-append}

-- what a list gives is what its first item gives, and then what the others give
pub record IsGathering {A B : Type 0} (F : List A → List B) : Type 0 where
  pub none : F [] ≡ []
  pub front : (x : A) (xs : List A) → F (x ∷ xs) ≡ F (x ∷ []) ++ F xs

pub filters : {A B : Type 0} (f : A → Option B) → IsGathering (filter_map f)
filters f = record { none = refl; front = λ x xs. filter_map-append f (x ∷ []) xs }

pub flats : {A B : Type 0} (f : A → List B) → IsGathering (flat_map f)
flats f = record { none = refl; front = λ x xs. ap (λ l. l ++ flat_map f xs) (sym (append-nil (f x))) }

pub maps : {A B : Type 0} (f : A → B) → IsGathering (map f)
maps f = record { none = refl; front = λ x xs. refl }

module _ {A B : Type 0} (F : List A → List B) (is : IsGathering F) where
  -- what was gathered in front of an item, and what the items from there on give, is what all give
  abbrev pub Gathered : List A → List B → List B → ℕ → Type 0
  Gathered xs first so_far i = so_far ++ F (drop i xs) ≡ first ++ F xs

  pub gathered_next : (xs : List A) (first before after : List B) (i : ℕ) (x : A) → slice_get xs i ≡ Some x
      → after ≡ before ++ F (x ∷ []) → Gathered xs first before i → Gathered xs first after (i + 1)
  gathered_next xs first before after i x at grown so_far =
      ap (λ bs. bs ++ F (drop (i + 1) xs)) grown
      ∙ append_assoc before (F (x ∷ [])) (F (drop (i + 1) xs))
      ∙ ap (λ bs. before ++ bs) (sym (is.front x (drop (i + 1) xs)) ∙ ap F (sym (drop_front xs i x at)))
      ∙ so_far

  pub gathered_all : (xs : List A) (first so_far : List B) (i : ℕ) → drop i xs ≡ [] → Gathered xs first so_far i → so_far ≡ first ++ F xs
  gathered_all xs first so_far i past gathered =
      sym (append-nil so_far) ∙ ap (λ ys. so_far ++ ys) (sym (ap F past ∙ is.none)) ∙ gathered

  -- over the items of a list that is seen through a view
  module _ {X : Type 0} (view : X → A) (xs : List X) (first : List B) where
    pub gathered_more : (before after : List B) (i : ℕ) (x : X) → i < length xs → x ≡ get_or xs i x → after ≡ before ++ F (view x ∷ [])
        → Gathered (map view xs) first before i → Gathered (map view xs) first after (i + 1)
    gathered_more before after i x less at grown so_far =
        gathered_next (map view xs) first before after i (view x) (mapped_at view xs i x less at) grown so_far

    pub gathered_end : (so_far : List B) (i : ℕ) → length xs ≤ i → Gathered (map view xs) first so_far i → so_far ≡ first ++ F (map view xs)
    gathered_end so_far i past gathered =
        gathered_all (map view xs) first so_far i (drop_all i (map view xs) (rw length-map past)) gathered

-- the same over numbered items
module _ {A B X : Type 0} (F : List (ℕ × A) → List B) (is : IsGathering F) (view : X → A) (xs : List X) (first : List B) where
  pub numbered_more : (before after : List B) (i : ℕ) (x : X) → i < length xs → x ≡ get_or xs i x → after ≡ before ++ F ((i, view x) ∷ [])
      → Gathered F is (numbered (map view xs)) first before i → Gathered F is (numbered (map view xs)) first after (i + 1)
  numbered_more before after i x less at grown so_far =
      gathered_next F is (numbered (map view xs)) first before after i (i, view x)
      (numbered_at (map view xs) i (view x) (mapped_at view xs i x less at)) grown so_far

  pub numbered_end : (so_far : List B) (i : ℕ) → length xs ≤ i → Gathered F is (numbered (map view xs)) first so_far i
      → so_far ≡ first ++ F (numbered (map view xs))
  numbered_end so_far i past gathered =
      gathered_all F is (numbered (map view xs)) first so_far i (numbered_past 0 (map view xs) i (rw length-map past)) gathered

-- ---- one item of a list that gives one thing or none

module _ {A B V : Type 0} (f : A → Option B) (view : V → B) (x : A) where
  pub put_some : (v : V) (before after : List V) → after ≡ before ++ v ∷ [] → Some (view v) ≡ f x
      → map view after ≡ map view before ++ filter_map f (x ∷ [])
  put_some v before after grown said =
      ap (map view) grown ∙ map-append view before (v ∷ []) ∙ ap (λ o. map view before ++ cons_option o []) said

  pub put_none : (before : List V) → None ≡ f x → map view before ≡ map view before ++ filter_map f (x ∷ [])
  put_none before said = sym (append-nil (map view before)) ∙ ap (λ o. map view before ++ cons_option o []) said

-- ---- one item that gives one thing

pub put_one : {B V : Type 0} (view : V → B) (v : V) (b : B) (before after : List V) → after ≡ before ++ v ∷ [] → view v ≡ b
    → map view after ≡ map view before ++ b ∷ []
put_one view v b before after grown said = ap (map view) grown ∙ map-append view before (v ∷ []) ∙ ap (λ x. map view before ++ x ∷ []) said

pub range_push : (k n : ℕ) → range_with_len k (n + 1) ≡ range_with_len k n ++ (k + n) ∷ []
range_push k zero = let e : k ≡ k + 0 = omega arith in ap (λ m. m ∷ []) e
range_push k (suc n) =
    let e : (k + 1) + n ≡ k + suc n = omega arith in
    ap (range_with_len k) (add-one (suc n))
    ∙ ap (λ l. k ∷ l) (ap (range_with_len (k + 1)) (sym (add-one n)) ∙ range_push (k + 1) n
    ∙ ap (λ m. range_with_len (k + 1) n ++ m ∷ []) e)

-- one thing more of a list that is mapped
pub taken_next : {A X : Type 0} (view : X → A) (xs : List X) (i : ℕ) (x : X) (before after : List A) → slice_get xs i ≡ Some x
    → after ≡ before ++ view x ∷ [] → before ≡ take i (map view xs) → after ≡ take (i + 1) (map view xs)
taken_next view xs i x before after at grown so_far =
    grown ∙ ap (λ l. l ++ view x ∷ []) so_far ∙ sym (take_next (map view xs) i (view x) (seen_at view xs i x at))
