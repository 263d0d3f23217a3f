-- Options: one or another, and what a function makes of one; and what a function leaves as it is.
use Rattle.std.proofs.Common.{◌≡◌, Bool, true, false, ◌||◌, if◌then◌else◌, List, [], ◌∷◌, ◌++◌, map, is_some, is_none, Option, Some, None}
use Rattle.std.proofs.Common.{slice_get, refl, ap, option_map}
use Rattle.std.specs.Option.{option_or}

pub is_some_map : {A B : Type 0} (f : A → B) (o : Option A) → is_some (option_map f o) ≡ is_some o
is_some_map f None = refl
is_some_map f (Some x) = refl

pub some_is : {A : Type 0} (o : Option A) → is_some o ≡ true → (a : A) × (o ≡ Some a)
some_is None e = absurd cc
some_is (Some a) e = (a, refl)

pub none_is : {A : Type 0} (o : Option A) → is_some o ≡ false → o ≡ None
none_is None e = refl
none_is (Some a) e = absurd cc

pub no_option : {A : Type 0} (o : Option A) → is_none o ≡ true → o ≡ None
no_option None e = refl
no_option (Some a) e = absurd cc

-- ---- one, or else another

pub or_none : {A : Type 0} (o : Option A) → option_or o None ≡ o
or_none None = refl
or_none (Some a) = refl

pub or_assoc : {A : Type 0} (a b c : Option A) → option_or (option_or a b) c ≡ option_or a (option_or b c)
or_assoc None b c = refl
or_assoc (Some x) b c = refl

pub or_map : {A B : Type 0} (f : A → B) (o p : Option A) → option_or (option_map f o) (option_map f p) ≡ option_map f (option_or o p)
or_map f None p = refl
or_map f (Some x) p = refl

pub some_or_if : {A : Type 0} (x : A) (o : Option A) (b : Bool) → is_some (option_or o (if b then Some x else None)) ≡ (is_some o || b)
some_or_if x None true = refl
some_or_if x None false = refl
some_or_if x (Some a) b = refl

pub first-append : {A : Type 0} (xs ys : List A) → slice_get (xs ++ ys) 0 ≡ option_or (slice_get xs 0) (slice_get ys 0)
first-append [] ys = refl
first-append (x ∷ xs) ys = refl

-- ---- a function that leaves each as it is

pub option_itself : {A : Type 0} (f : A → A) → ((a : A) → f a ≡ a) → (o : Option A) → option_map f o ≡ o
option_itself f same None = refl
option_itself f same (Some a) = ap Some (same a)

pub map_itself : {A : Type 0} (f : A → A) → ((a : A) → f a ≡ a) → (xs : List A) → map f xs ≡ xs
map_itself f same [] = refl
map_itself f same (x ∷ xs) = λ i. same x i ∷ map_itself f same xs i
