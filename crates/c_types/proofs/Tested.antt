-- Tests of all items of a list that is made of others.
use Rattle.c_types.proofs.Common.{◌≡◌, Bool, true, false, ◌&&◌, List, [], ◌∷◌, ◌++◌, map, flat_map, refl, ap, ◌∙◌, list_all}
use Rattle.std.proofs.lemmas.List.Folds.{list_all-append}

-- (under a name that code can cite)
pub all_append : {A : Type 0} (p : A → Bool) (xs ys : List A) → list_all p (xs ++ ys) ≡ (list_all p xs && list_all p ys)
all_append p xs ys = list_all-append p xs ys

pub all_one : {A : Type 0} (p : A → Bool) (x : A) → list_all p (x ∷ []) ≡ p x
all_one p x = go (p x)
  where
    go : (b : Bool) → (b && true) ≡ b
    go true = refl
    go false = refl

pub all_first : {A : Type 0} (p : A → Bool) (x : A) (xs : List A) → list_all p (x ∷ xs) ≡ (p x && list_all p xs)
all_first p x xs = refl

-- what each item gives, joined
pub all_of_each : {A B C : Type 0} (p : C → Bool) (f : B → List C) (view : A → B) (xs : List A)
    → list_all p (flat_map f (map view xs)) ≡ list_all (λ x. list_all p (f (view x))) xs
all_of_each p f view [] = refl
all_of_each p f view (x ∷ xs) =
    all_append p (f (view x)) (flat_map f (map view xs)) ∙ ap (λ b. list_all p (f (view x)) && b) (all_of_each p f view xs)
