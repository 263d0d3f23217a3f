-- The first of what each item of a list gives.
use Rattle.c_rules.proofs.Common.{◌≡◌, ℕ, zero, suc, ◌+◌, ◌<◌, ◌≤◌, Bool, true, false, not, List, [], ◌∷◌, ◌++◌, map, length, get_or, drop}
use Rattle.c_rules.proofs.Common.{if◌then◌else◌, slice_get, Some, None, filter, Option, option_map, zip, flat_map, sym, refl, ap, ◌∙◌}
use Rattle.c_rules.proofs.Common.{arith, range_with_len, numbered, broken_of}
use Rattle.c_rules.specs.FirstRule.{first_rule}
use Rattle.w2c_base.proofs.NumberedLists.{numbered_past}

-- the first of the rules that do not hold
pub first_broken_of : {P : Type 0} (rules : List (ℕ × (P → Bool))) (p : P) → slice_get (broken_of rules p) 0 ≡ first_rule rules p
first_broken_of [] p = refl
first_broken_of {P} (r ∷ rules) p = go (r.1 p) (first_broken_of rules p)
  where
    go : (b : Bool) → slice_get (broken_of rules p) 0 ≡ first_rule rules p
        → slice_get (map (λ (x : ℕ × (P → Bool)). x.0)
        (if not b then r ∷ filter (λ (x : ℕ × (P → Bool)). not (x.1 p)) rules
        else filter (λ (x : ℕ × (P → Bool)). not (x.1 p)) rules)) 0 ≡ (if b then first_rule rules p else Some r.0)
    go true behind = behind
    go false behind = refl

-- the first of two lists
pub first_mapped : {A B : Type 0} (f : A → B) (xs : List A) → slice_get (map f xs) 0 ≡ option_map f (slice_get xs 0)
first_mapped f [] = refl
first_mapped f (x ∷ xs) = refl

pub first_left : {A : Type 0} (xs ys : List A) (x : A) → slice_get xs 0 ≡ Some x → slice_get (xs ++ ys) 0 ≡ Some x
first_left [] ys x e = cc
first_left (y ∷ xs) ys x e = e

pub first_right : {A : Type 0} (xs ys : List A) → slice_get xs 0 ≡ None → slice_get (xs ++ ys) 0 ≡ slice_get ys 0
first_right [] ys e = refl
first_right (y ∷ xs) ys e = cc

-- numbered items from one on
pub numbered_front : {A B : Type 0} (view : A → B) (k : ℕ) (xs : List A) (i : ℕ) (x : A) → i < length xs → x ≡ get_or xs i x
    → drop i (zip (range_with_len k (length (map view xs))) (map view xs))
    ≡ (k + i, view x) ∷ drop (i + 1) (zip (range_with_len k (length (map view xs))) (map view xs))
numbered_front view k [] i x lt is = absurd (omega arith)
numbered_front view k (y ∷ xs) zero x lt is =
    let e : k ≡ k + 0 = omega arith in
    ap (λ z. (k, view z) ∷ zip (range_with_len (k + 1) (length (map view xs))) (map view xs)) (sym is)
    ∙ ap (λ n. (n, view x) ∷ zip (range_with_len (k + 1) (length (map view xs))) (map view xs)) e
numbered_front view k (y ∷ xs) (suc i) x lt is =
    let e : (k + 1) + i ≡ k + suc i = omega arith in
    let next : suc (i + 1) ≡ suc i + 1 = omega arith in
    numbered_front view (k + 1) xs i x (omega arith) is
    ∙ ap (λ n. (n, view x) ∷ drop (suc (i + 1)) (zip (range_with_len k (length (map view (y ∷ xs)))) (map view (y ∷ xs)))) e
    ∙ ap (λ m. (k + suc i, view x) ∷ drop m (zip (range_with_len k (length (map view (y ∷ xs)))) (map view (y ∷ xs)))) next

module _ {A B C : Type 0} (view : A → B) (gives : ℕ × B → List C) (xs : List A) (i : ℕ) where
  pub first_end : (whole : Option C) → length (map view xs) ≤ i → slice_get (flat_map gives (drop i (numbered (map view xs)))) 0 ≡ whole
      → None ≡ whole
  first_end whole past so_far = sym (ap (λ es. slice_get (flat_map gives es) 0) (numbered_past 0 (map view xs) i past)) ∙ so_far

  module _ (x : A) (lt : i < length xs) (is : x ≡ get_or xs i x) (whole : Option C) where
    front : flat_map gives (drop i (numbered (map view xs))) ≡ gives (i, view x) ++ flat_map gives (drop (i + 1) (numbered (map view xs)))
    front =
        let e : 0 + i ≡ i = omega arith in
        ap (flat_map gives) (numbered_front view 0 xs i x lt is)
        ∙ ap (λ n. gives (n, view x) ++ flat_map gives (drop (i + 1) (numbered (map view xs)))) e

    pub first_more : slice_get (gives (i, view x)) 0 ≡ None → slice_get (flat_map gives (drop i (numbered (map view xs)))) 0 ≡ whole
        → slice_get (flat_map gives (drop (i + 1) (numbered (map view xs)))) 0 ≡ whole
    first_more none so_far = sym (ap (λ ys. slice_get ys 0) front ∙ first_right (gives (i, view x)) _ none) ∙ so_far

    pub first_stops : (c : C) → slice_get (gives (i, view x)) 0 ≡ Some c
        → slice_get (flat_map gives (drop i (numbered (map view xs)))) 0 ≡ whole → Some c ≡ whole
    first_stops c some so_far = sym (ap (λ ys. slice_get ys 0) front ∙ first_left (gives (i, view x)) _ c some) ∙ so_far
