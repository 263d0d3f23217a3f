-- Lists of which some elements are left out, and what holds of each element.
use Rattle.c_trim.proofs.Common.{◌≡◌, ℕ, Bool, true, false, ◌||◌, List, [], ◌∷◌, ◌++◌, map, if◌then◌else◌, None, filter, Option, filter_map}
use Rattle.c_trim.proofs.Common.{sym, refl, ap, ◌∙◌, AllByRecursion, list_all, list_any, option_or, both_hold, of_each, named, arith}
use Rattle.std.proofs.lemmas.Bool.{and_from, or_right, or_left}
use Rattle.name_table.proofs.Lookups.{named-append}

pub all_where : {A : Type 0} (p q : A → Bool) → ((a : A) → p a ≡ true → q a ≡ true) → (xs : List A) → list_all p xs ≡ true
    → list_all q xs ≡ true
all_where p q go [] e = refl
all_where p q go (x ∷ xs) e =
    let two = both_hold (p x) (list_all p xs) e in
    and_from (q x) (list_all q xs) (go x two.0) (all_where p q go xs two.1)

pub all_left : {A : Type 0} (p keep : A → Bool) (xs : List A) → list_all p xs ≡ true → list_all p (filter keep xs) ≡ true
all_left p keep [] e = refl
all_left {A} p keep (x ∷ xs) e =
    let two = both_hold (p x) (list_all p xs) e in by (keep x) two.0 (all_left p keep xs two.1)
  where
    by : (b : Bool) → p x ≡ true → list_all p (filter keep xs) ≡ true → list_all p (if b then x ∷ filter keep xs else filter keep xs) ≡ true
    by true here behind = and_from (p x) (list_all p (filter keep xs)) here behind
    by false here behind = behind

-- what passes a test and stays is found still
pub any_left : {A : Type 0} (p keep : A → Bool) → ((a : A) → p a ≡ true → keep a ≡ true) → (xs : List A) → list_any p xs ≡ true
    → list_any p (filter keep xs) ≡ true
any_left p keep stays [] e = cc
any_left {A} p keep stays (x ∷ xs) e = grind (arith, keep x, any_left p keep stays xs, or_left, or_right)

-- what is found in a part is found in the whole
pub any_of_left : {A : Type 0} (p keep : A → Bool) (xs : List A) → list_any p xs ≡ false → list_any p (filter keep xs) ≡ false
any_of_left p keep [] e = refl
any_of_left {A} p keep (x ∷ xs) e = grind (arith, keep x, any_of_left p keep xs)

pub any_map : {A B : Type 0} (p : B → Bool) (f : A → B) (xs : List A) → list_any p (map f xs) ≡ list_any (λ a. p (f a)) xs
any_map p f [] = refl
any_map p f (x ∷ xs) = ap (λ b. p (f x) || b) (any_map p f xs)

-- what gives nothing may be left out
pub map_left : {A B : Type 0} (f : A → Option B) (keep : A → Bool) → ((a : A) → keep a ≡ false → f a ≡ None) → (xs : List A)
    → filter_map f (filter keep xs) ≡ filter_map f xs
map_left f keep quiet [] = refl
map_left {A} {B} f keep quiet (x ∷ xs) = grind (arith, keep x, map_left f keep quiet xs)

-- each element passes what any element passes
pub any_of_each : {A : Type 0} (xs : List A) → AllByRecursion (λ (a : A). (test : A → Bool) → test a ≡ true → list_any test xs ≡ true) xs
any_of_each [] = tt
any_of_each {A} (x ∷ xs) = (
  λ test e. or_left (test x) (list_any test xs) e,
  of_each (λ (a : A). (test : A → Bool) → test a ≡ true → list_any test xs ≡ true)
      (λ (a : A). (test : A → Bool) → test a ≡ true → list_any test (x ∷ xs) ≡ true)
      (λ a there test e. or_right (test x) (list_any test xs) (there test e)) xs (any_of_each xs),
)

-- ---- lists of nothing

-- what stands beside a name, by the list in front
pub named_in_front : {A : Type 0} (name : List ℕ) (xs ys behind : List (List ℕ × A)) → named name xs ≡ named name ys
    → named name (xs ++ behind) ≡ named name (ys ++ behind)
named_in_front name xs ys behind e = named-append name xs behind ∙ ap (λ o. option_or o (named name behind)) e
    ∙ sym (named-append name ys behind)
