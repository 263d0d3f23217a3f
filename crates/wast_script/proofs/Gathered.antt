-- A loop that gathers what each item gives: what was gathered, and what the rest gives, is what the whole gives.
use Rattle.wast_script.proofs.Common.{◌≡◌, ℕ, ◌+◌, ◌<◌, cond, not, List, [], ◌∷◌, ◌++◌, map, length, get_or, drop, is_some, Some, None}
use Rattle.wast_script.proofs.Common.{Option, option_map, option_and_then, sym, refl, ap, ◌∙◌, append_assoc, drop_more, length-map}
use Rattle.wast_script.proofs.Common.{position_from, all_given, gives_nothing}
use Rattle.std.proofs.Math.ListN.{get_or-map}

module _ {A B : Type 0} (f : A → Option B) where
  abbrev pub gathered : List B → List A → Option (List B)
  gathered ys xs = option_map (λ zs. ys ++ zs) (all_given f xs)

  -- where an item gives this
  abbrev pub behind : List B → Option B → List A → Option (List B)
  behind ys o xs = option_map (λ zs. ys ++ zs) (option_and_then (λ y. option_map (λ ys. y ∷ ys) (all_given f xs)) o)

  one_more : (ys : List B) (x : A) (xs : List A) (y : B) → f x ≡ Some y → gathered ys (x ∷ xs) ≡ gathered (ys ++ y ∷ []) xs
  one_more ys x xs y is = ap (λ o. behind ys o xs) is ∙ same (all_given f xs)
    where
      same : (o : Option (List B))
          → option_map (λ zs. ys ++ zs) (option_map (λ ys. y ∷ ys) o) ≡ option_map (λ zs. (ys ++ y ∷ []) ++ zs) o
      same None = refl
      same (Some zs) = ap (λ l. Some l) (sym (append_assoc ys (y ∷ []) zs))

  none_more : (ys : List B) (x : A) (xs : List A) → f x ≡ None → gathered ys (x ∷ xs) ≡ None
  none_more ys x xs is = ap (λ o. behind ys o xs) is

  -- the first that gives nothing, among items of which the first has this number
  abbrev pub first_from : ℕ → List A → Option ℕ
  first_from i xs = position_from (gives_nothing f) i xs

  -- where an item gives this
  abbrev first_with : ℕ → Option B → List A → Option ℕ
  first_with i o xs = cond (not (is_some o)) (Some i) (first_from (i + 1) xs)

-- ---- a turn of the loop, at one of the items as they are kept

module _ {A B C : Type 0} (view : C → A) (f : A → Option B) (items : List C) (i : ℕ) (x : C)
    (less : i < length items) (is : x ≡ get_or items i x) where
  abbrev left : List A
  left = drop i (map view items)

  abbrev rest : List A
  rest = drop (i + 1) (map view items)

  left_is : left ≡ view x ∷ rest
  left_is =
      drop_more (map view items) i (view x) (rw length-map less) ∙ ap (λ y. y ∷ rest) (get_or-map view items i x ∙ ap view (sym is))

  pub nothing_here : (ys : List B) (whole : Option (List B)) → gathered f ys left ≡ whole → f (view x) ≡ None → None ≡ whole
  nothing_here ys whole so_far none = sym (none_more f ys (view x) rest none) ∙ ap (gathered f ys) (sym left_is) ∙ so_far

  pub next_here : (ys new : List B) (y : B) (whole : Option (List B)) → gathered f ys left ≡ whole → f (view x) ≡ Some y
      → new ≡ ys ++ y ∷ [] → gathered f new rest ≡ whole
  next_here ys new y whole so_far some pushed =
      ap (λ l. gathered f l rest) pushed ∙ sym (one_more f ys (view x) rest y some) ∙ ap (gathered f ys) (sym left_is) ∙ so_far

  -- the first item that gives nothing, counted from 1
  pub first_is_here : (whole : Option ℕ) → first_from f (i + 1) left ≡ whole → f (view x) ≡ None → whole ≡ Some (i + 1)
  first_is_here whole so_far none = sym so_far ∙ ap (first_from f (i + 1)) left_is ∙ ap (λ o. first_with f (i + 1) o rest) none

  pub first_is_behind : (whole : Option ℕ) (y : B) → first_from f (i + 1) left ≡ whole → f (view x) ≡ Some y
      → first_from f (i + 1 + 1) rest ≡ whole
  first_is_behind whole y so_far some =
      ap (λ o. first_with f (i + 1) o rest) (sym some) ∙ ap (first_from f (i + 1)) (sym left_is) ∙ so_far
