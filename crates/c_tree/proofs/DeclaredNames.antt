-- What is found by a name in two lists, one behind the other.
use Rattle.c_tree.proofs.Common.{◌≡◌, Bool, true, false, List, [], ◌∷◌, ◌++◌, if◌then◌else◌, Some, None, bytes_eq, refl, named}
use Rattle.c_tree.specs.Scope.{Name}

pub past_none : {A : Type 0} (q : Name) (xs ys : List (Name × A)) → named q xs ≡ None → named q (xs ++ ys) ≡ named q ys
past_none q [] ys e = refl
past_none {A = A} q (x ∷ xs) ys e = by (bytes_eq x.0 q) e (past_none q xs ys)
  where
    by : (b : Bool) → (if b then Some x.1 else named q xs) ≡ None → (named q xs ≡ None → named q (xs ++ ys) ≡ named q ys)
        → (if b then Some x.1 else named q (xs ++ ys)) ≡ named q ys
    by true f rest = absurd cc
    by false f rest = rest f

pub named_in : {A : Type 0} (q : Name) (xs ys : List (Name × A)) (t : A) → named q xs ≡ Some t → named q (xs ++ ys) ≡ Some t
named_in q [] ys t e = absurd cc
named_in q (x ∷ xs) ys t e = by (bytes_eq x.0 q) e (named_in q xs ys t)
  where
    by : (b : Bool) → (if b then Some x.1 else named q xs) ≡ Some t → (named q xs ≡ Some t → named q (xs ++ ys) ≡ Some t)
        → (if b then Some x.1 else named q (xs ++ ys)) ≡ Some t
    by true f rest = f
    by false f rest = rest f
