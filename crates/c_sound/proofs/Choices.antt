-- By cases: on a test, on what may be there, and on names beside which something stands.
use Rattle.c_sound.proofs.Common.{◌≡◌, List, [], ◌∷◌, ◌++◌, Some, None, Option, bytes_eq, refl, by_test, named, Name}

pub by_option : {A P : Type 0} (o : Option A) → (o ≡ None → P) → ((a : A) → o ≡ Some a → P) → P
by_option None none some_ = none refl
by_option (Some a) none some_ = some_ a refl

-- what is beside a name in two lists
pub named_behind : {A : Type 0} (name : Name) (xs ys : List (Name × A)) → named name xs ≡ None → named name (xs ++ ys) ≡ named name ys
named_behind name [] ys e = refl
named_behind name (x ∷ xs) ys e = by_test (bytes_eq x.0 name)
    (λ is. absurd (let f = rw is at e in cc))
    (λ is. rw is (named_behind name xs ys (rw is at e)))

pub named_in_front : {A : Type 0} (name : Name) (xs ys : List (Name × A)) (a : A) → named name xs ≡ Some a
    → named name (xs ++ ys) ≡ Some a
named_in_front name [] ys a e = absurd cc
named_in_front name (x ∷ xs) ys a e = by_test (bytes_eq x.0 name)
    (λ is. rw is (rw is at e))
    (λ is. rw is (named_in_front name xs ys a (rw is at e)))

pub same_some : {A : Type 0} (o : Option A) (a b : A) → o ≡ Some a → o ≡ Some b → a ≡ b
same_some o a b e f = cc

pub not_both : {A : Type 0} (o : Option A) (a : A) → o ≡ None → o ≡ Some a → ⊥
not_both o a e f = cc
