-- Small lemmas on tests, lists, faults and names, and the kinds of imports by a test.
use Rattle.std.proofs.Common.{inl, inr, nat_lt}
use Rattle.std.proofs.lemmas.Bool.Decides.{leb_tells, nat_tests}
use Rattle.wasm_typing.specs.declared.fault.ValidCause.{ValidCause}
use Rattle.c_init.proofs.Common.{◌≡◌, ℕ, suc, ◌<◌, ◌≤◌, Bool, true, false, cond, ◌⊎◌, List, [], ◌∷◌, ◌++◌, map, length, is_none, Some}
use Rattle.c_init.proofs.Common.{None, filter, Option, flat_map, refl, ap, arith, AllByRecursion, if_found, ImportKind, ImportFunc}
use Rattle.c_init.proofs.Common.{ImportGlobal, ImportMemory, ImportTable, Limits, fault_if, too_many, IsSome}

-- ---- tests and numbers

pub same_or_less : (v u : ℕ) → v < suc u → (v ≡ u) ⊎ (v < u)
same_or_less v u less = grind (arith, less)

pub at_least : (x y : ℕ) → y ≤ x → nat_lt x y ≡ false
at_least x y le = elim (leb_tells y x) [ inl h ↦ (grind (arith, nat_tests)) | inr h ↦ absurd (omega (arith, le, h.1)) ]

-- ---- what is there

pub some_same : {A : Type 0} {a b : A} → Some a ≡ Some b → a ≡ b
some_same e = cc

pub there_is : {A : Type 0} (o : Option A) → is_none o ≡ false → (a : A) × (o ≡ Some a)
there_is None e = absurd cc
there_is (Some a) e = (a, refl)

pub there_in : {A : Type 0} (o : Option (Option A)) (a : A) → if_found o (λ e. e) ≡ Some a → o ≡ Some (Some a)
there_in None a e = absurd (cc)
there_in (Some o) a e = ap Some e

-- ---- lists

pub no_left : {A : Type 0} (xs ys : List A) → xs ++ ys ≡ [] → xs ≡ []
no_left [] ys e = refl
no_left (x ∷ xs) ys e = absurd cc

pub no_right : {A : Type 0} (xs ys : List A) → xs ++ ys ≡ [] → ys ≡ []
no_right [] ys e = e
no_right (x ∷ xs) ys e = absurd cc

pub each_none : {A B : Type 0} (f : A → List B) (xs : List A) → flat_map f xs ≡ [] → AllByRecursion (λ x. f x ≡ []) xs
each_none f [] e = tt
each_none f (x ∷ xs) e = (no_left (f x) (flat_map f xs) e, each_none f xs (no_right (f x) (flat_map f xs) e))

pub all_images : {A B : Type 0} (P : B → Type 0) (f : A → B) (xs : List A) → ((x : A) → P (f x)) → AllByRecursion P (map f xs)
all_images P f [] h = tt
all_images P f (x ∷ xs) h = (h x, all_images P f xs h)

pub all_pass : {A : Type 0} (p : A → Bool) (xs : List A) → AllByRecursion (λ x. p x ≡ true) (filter p xs)
all_pass p [] = tt
all_pass p (x ∷ xs) = go (p x) refl (all_pass p xs)
  where
    go : (b : Bool) → p x ≡ b → AllByRecursion (λ x. p x ≡ true) (filter p xs)
        → AllByRecursion (λ x. p x ≡ true) (cond b (x ∷ filter p xs) (filter p xs))
    go true is all = (is, all)
    go false is all = all

-- ---- faults

pub no_fault : (b : Bool) (place : ℕ) (cause : ValidCause) → fault_if b place cause ≡ [] → b ≡ false
no_fault true place cause e = absurd cc
no_fault false place cause e = refl

pub few : (cause : ValidCause) (xs : List Limits) → too_many cause xs ≡ [] → length xs ≤ 1
few cause [] e = omega arith
few cause (x ∷ []) e = omega arith
few cause (x ∷ y ∷ xs) e = absurd cc

-- ---- names

-- a name without its letter
abbrev pub behind_letter : List ℕ → List ℕ
behind_letter [] = []
behind_letter (x ∷ name) = name

-- ---- the kinds of imports

abbrev pub is_func : ImportKind → Bool
is_func kind = elim kind [ ImportFunc t ↦ true | ImportTable l ↦ false | ImportMemory l ↦ false | ImportGlobal t mutable ↦ false ]

abbrev pub is_table : ImportKind → Bool
is_table kind = elim kind [ ImportFunc t ↦ false | ImportTable l ↦ true | ImportMemory l ↦ false | ImportGlobal t mutable ↦ false ]

abbrev pub is_memory : ImportKind → Bool
is_memory kind = elim kind [ ImportFunc t ↦ false | ImportTable l ↦ false | ImportMemory l ↦ true | ImportGlobal t mutable ↦ false ]

abbrev pub is_global : ImportKind → Bool
is_global kind = elim kind [ ImportFunc t ↦ false | ImportTable l ↦ false | ImportMemory l ↦ false | ImportGlobal t mutable ↦ true ]

pub is_there : {A : Type 0} (o : Option A) → is_none o ≡ false → IsSome o
is_there None e = absurd cc
is_there (Some a) e = refl
