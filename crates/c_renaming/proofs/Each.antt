-- What is known of each item of a list, and of what an option holds.
use Rattle.c_renaming.proofs.Common.{◌≡◌, ℕ, zero, suc, List, [], ◌∷◌, ◌++◌, slice_get, Some, None, Option, subst, option_or, Each, Holds}

-- what holds of an item, and what holds of those behind it
infixr 5 ◌&◌
abbrev pub ◌&◌ : {A B : Type 0} → A → B → A × B
a & b = (a, b)

pub each_by : {A : Type 0} {P Q : A → Type 0} → ((a : A) → P a → Q a) → (xs : List A) → Each P xs → Each Q xs
each_by give [] each = tt
each_by give (x ∷ xs) each = (give x each.0, each_by give xs each.1)

pub each-append : {A : Type 0} (P : A → Type 0) (xs ys : List A) → Each P xs → Each P ys → Each P (xs ++ ys)
each-append P [] ys first second = second
each-append P (x ∷ xs) ys first second = (first.0, each-append P xs ys first.1 second)

pub each_at : {A : Type 0} (P : A → Type 0) (xs : List A) → Each P xs → (i : ℕ) (x : A) → slice_get xs i ≡ Some x → P x
each_at P [] each i x at = absurd cc
each_at P (y ∷ xs) each zero x at = let same : y ≡ x = cc in subst P same each.0
each_at P (y ∷ xs) each (suc i) x at = each_at P xs each.1 i x at

pub or_kept : {A : Type 0} (P : A → Type 0) (o p : Option A) → Holds P o → Holds P p → Holds P (option_or o p)
or_kept P None p a b = b
or_kept P (Some x) p a b = a
