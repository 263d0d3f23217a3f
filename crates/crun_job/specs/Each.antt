-- Lists of which each element has its own in another list, and the first element that is refused.
use Rattle.std.specs.Prelude.{◌≡◌, ℕ, List, [], ◌∷◌, ◌++◌, length}

-- each element, in order, has its own in the other list
abbrev pub AreEach : {A B : Type 0} → (A → B → Type 0) → List A → List B → Type 0
AreEach R [] [] = Unit {0}
AreEach R (x ∷ xs) (y ∷ ys) = R x y × AreEach R xs ys
AreEach R [] (y ∷ ys) = ⊥
AreEach R (x ∷ xs) [] = ⊥

-- the first element that is refused, by its number from 0, and why: each in front of it has its own
pub record IsFirst {A B C : Type 0} (R : A → B → Type 0) (Refuses : A → C → Type 0) (xs : List A) (number : ℕ) (why : C) : Type 0 where
  pub front : List A
  pub first : A
  pub rest : List A
  pub found : List B
  pub split : xs ≡ front ++ first ∷ rest
  pub number_is : number ≡ length front
  pub before : AreEach R front found
  pub refused : Refuses first why
