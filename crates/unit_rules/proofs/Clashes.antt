-- Items that do not clash with earlier ones of their unit. Where none does, each function is found under its name.
use Rattle.unit_rules.proofs.Common.{◌≡◌, ℕ, zero, suc, Bool, true, false, not, ◌||◌, ◌≢◌, ◌⊎◌, List, [], ◌∷◌, ◌++◌, map, if◌then◌else◌, ap}
use Rattle.unit_rules.proofs.Common.{◌==◌, slice_get, Some, flat_map, filter_map, bytes_eq, sym, refl, ◌∙◌, subst, inl, inr, arith, all_at}
use Rattle.unit_rules.proofs.Common.{or_right, not-true, AllByRecursion, list_all, both_hold, all_front, all_weaker, all_append, all_from}
use Rattle.unit_rules.proofs.Common.{all_map, named, is_runtime_name, may_both_stand, same_func_type, array_of, func_type_of, is_among, at}
use Rattle.unit_rules.proofs.Common.{name_of, bytes_equal, classes_differ, funcs_in, class, are_alike, func_types_same, AllPairs, AllClass}
use Rattle.std.specs.Prelude.{⊤}
use Rattle.body_rules.proofs.RulesOfFunctions.{all_at as all_around}
use Rattle.c_tree.specs.Tree as tree

-- ---- what is so of the names of items

abbrev pub NotSame : tree.Item → tree.Item → Type 0
NotSame o x = bytes_eq (name_of o) (name_of x) ≡ false

-- rule 1 of two items
abbrev pub MayFollow : tree.Item → tree.Item → Type 0
MayFollow o x = not (bytes_eq (name_of o) (name_of x)) || may_both_stand o x ≡ true

-- what stands before does not clash
abbrev pub Apart : tree.Item → List tree.Item → Type 0
Apart x before = AllByRecursion (λ o. MayFollow o x) before

abbrev pub NoClass : ℕ → List tree.Item → Type 0
NoClass k items = AllByRecursion (λ o. class (name_of o) ≢ k) items

abbrev pub NoRuntime : List tree.Item → Type 0
NoRuntime items = AllByRecursion (λ o. is_runtime_name (name_of o) ≡ false) items

pub not_same : (o x : tree.Item) → NotSame o x → MayFollow o x
not_same o x e = rw e refl

-- ---- pairs

pub pairs_at : {A : Type 0} (R : A → A → Type 0) (before : List A) (x : A) (behind : List A) → AllPairs R (before ++ x ∷ behind)
    → AllByRecursion (λ o. R o x) before
pairs_at R [] x behind h = tt
pairs_at R (y ∷ before) x behind h = (all_around (R y) before x behind h.0, pairs_at R before x behind h.1)

pub pairs_front : {A : Type 0} (R : A → A → Type 0) (xs ys : List A) → AllPairs R (xs ++ ys) → AllPairs R xs
pairs_front R [] ys h = tt
pairs_front R (x ∷ xs) ys h = (all_front (R x) xs ys h.0, pairs_front R xs ys h.1)

pub pairs_mapped : {A B : Type 0} (R : B → B → Type 0) (g : A → B) (xs : List A) → AllPairs (λ x y. R (g x) (g y)) xs
    → AllPairs R (map g xs)
pairs_mapped R g [] h = tt
pairs_mapped R g (x ∷ xs) h = (all_map (R (g x)) g xs h.0, pairs_mapped R g xs h.1)

pub pairs_weaker : {A : Type 0} (R S : A → A → Type 0) (xs : List A) → ((x y : A) → R x y → S x y) → AllPairs R xs → AllPairs S xs
pairs_weaker R S [] f h = tt
pairs_weaker R S (x ∷ xs) f h = (all_weaker (R x) (S x) xs (f x) h.0, pairs_weaker R S xs f h.1)

pairs_joined : {A : Type 0} (R : A → A → Type 0) (xs ys : List A) → AllByRecursion (λ y. AllByRecursion (λ x. R x y) xs) ys → AllPairs R xs
    → AllPairs R ys → AllPairs R (xs ++ ys)
pairs_joined R [] ys across p q = q
pairs_joined R (x ∷ xs) ys across p q = (
  all_append (R x) xs ys p.0 (all_weaker _ (R x) ys (λ y h. h.0) across),
  pairs_joined R xs ys (all_weaker _ (λ y. AllByRecursion (λ x. R x y) xs) ys (λ y h. h.1) across) p.1 q,
)

-- ---- sections, each with the class of its names

abbrev pub Section : Type 0
Section = ℕ × List tree.Item

abbrev pub in_row : List Section → List tree.Item
in_row sections = flat_map (λ (s : Section). s.1) sections

-- names of other classes differ
pub other_class : (k l : ℕ) (items : List tree.Item) → k == l ≡ false → AllClass k items → NoClass l items
other_class k l items ne h = all_weaker _ (λ o. class (name_of o) ≢ l) items
    (λ o e f. let same : k ≡ l = sym e ∙ f in absurd (grind (arith, ne, same))) h

pub apart_classes : (k : ℕ) (xs ys : List tree.Item) → AllClass k xs → NoClass k ys → AllByRecursion (λ y. Apart y xs) ys
apart_classes k xs ys h none = all_weaker _ (λ y. Apart y xs) ys
    (λ y ne. all_weaker _ (λ o. MayFollow o y) xs
    (λ o e. not_same o y (classes_differ (name_of o) (name_of y) (λ f. ne (sym f ∙ e)))) h) none

-- of these sections each has its class, and no item clashes with an earlier one
pub record AreApart (sections : List Section) : Type 0 where
  pub classes : AllByRecursion (λ (s : Section). AllClass s.0 s.1) sections
  pub apart : AllPairs MayFollow (in_row sections)

-- a section does not clash with those behind it: another has another class, or it is shown
abbrev pub IsAcross : ℕ → List tree.Item → List Section → Type 0
IsAcross k xs sections = AllByRecursion (λ (s : Section). (s.0 == k ≡ false) ⊎ AllByRecursion (λ y. Apart y xs) s.1) sections

elsewhere : (k : ℕ) (xs : List tree.Item) (sections : List Section) → list_all (λ (s : Section). not (s.0 == k)) sections ≡ true
    → IsAcross k xs sections
elsewhere k xs [] e = tt
elsewhere k xs (s ∷ sections) e =
    let both = both_hold (not (s.0 == k)) _ e in (inl (not-true (s.0 == k) both.0), elsewhere k xs sections both.1)

pub no_class : (k : ℕ) (sections : List Section) → AllByRecursion (λ (s : Section). AllClass s.0 s.1) sections
    → list_all (λ (s : Section). not (s.0 == k)) sections ≡ true → NoClass k (in_row sections)
no_class k [] h e = tt
no_class k (s ∷ sections) h e =
    let both = both_hold (not (s.0 == k)) _ e in
    all_append (λ o. class (name_of o) ≢ k) s.1 (in_row sections)
    (other_class s.0 k s.1 (not-true (s.0 == k) both.0) h.0) (no_class k sections h.1 both.1)

pub next_apart : (k : ℕ) (xs : List tree.Item) (sections : List Section) → AllClass k xs → AllPairs NotSame xs → IsAcross k xs sections
    → AreApart sections → AreApart ((k, xs) ∷ sections)
next_apart k xs sections class_is pairs across h = record {
  classes = (class_is, h.classes);
  apart = pairs_joined MayFollow xs (in_row sections) (row sections across h.classes)
      (pairs_weaker NotSame MayFollow xs not_same pairs) h.apart;
}
  where
    one : (s : Section) → (s.0 == k ≡ false) ⊎ AllByRecursion (λ y. Apart y xs) s.1 → AllClass s.0 s.1
        → AllByRecursion (λ y. Apart y xs) s.1
    one s (inl test) class_of = apart_classes k xs s.1 class_is (other_class s.0 k s.1 test class_of)
    one s (inr shown) class_of = shown

    row : (sections : List Section) → IsAcross k xs sections → AllByRecursion (λ (s : Section). AllClass s.0 s.1) sections
        → AllByRecursion (λ y. Apart y xs) (in_row sections)
    row [] across classes = tt
    row (s ∷ sections) across classes =
        all_append (λ y. Apart y xs) s.1 (in_row sections) (one s across.0 classes.0) (row sections across.1 classes.1)

pub next_other : (k : ℕ) (xs : List tree.Item) (sections : List Section) → AllClass k xs → AllPairs NotSame xs
    → list_all (λ (s : Section). not (s.0 == k)) sections ≡ true → AreApart sections → AreApart ((k, xs) ∷ sections)
next_other k xs sections class_is pairs test h = next_apart k xs sections class_is pairs (elsewhere k xs sections test) h

-- ---- arrays and functions are found

-- an array is found under its name, and a function with its type
abbrev pub IsFound : List tree.Item → tree.Item → Type 0
IsFound items (tree.Array name count bytes) = is_among name (filter_map array_of items) ≡ true
IsFound items (tree.Var ty name number) = ⊤
IsFound items (tree.Function f) = named f.name (funcs_in items) ≡ Some (func_type_of f)

found_first : (x : tree.Item) (items : List tree.Item) → IsFound (x ∷ items) x
found_first (tree.Array name count bytes) items = rw (bytes_equal name) refl
found_first (tree.Var ty name number) items = tt
found_first (tree.Function f) items = rw (bytes_equal f.name) refl

found_behind : (o x : tree.Item) (items : List tree.Item) → MayFollow o x → IsFound items x → IsFound (o ∷ items) x
found_behind (tree.Array other n bs) (tree.Array name count bytes) items h found = or_right (bytes_eq name other) _ found
found_behind (tree.Function g) (tree.Function f) items h found = by (bytes_eq g.name f.name) h
  where
    by : (b : Bool) → not b || may_both_stand (tree.Function g) (tree.Function f) ≡ true
        → (if b then Some (func_type_of g) else named f.name (funcs_in items)) ≡ Some (func_type_of f)
    by true h =
        let alike = both_hold (are_alike (tree.Function g) (tree.Function f)) _ h in
        ap Some (func_types_same (func_type_of g) (func_type_of f)
        (both_hold _ (same_func_type (func_type_of g) (func_type_of f)) alike.0).1)
    by false h = found
found_behind _ (tree.Var ty name number) items h found = tt
found_behind _ _ items h found = found

found_at : (items : List tree.Item) (i : ℕ) (x : tree.Item) → AllPairs MayFollow items → slice_get items i ≡ Some x → IsFound items x
found_at [] i x apart at = absurd cc
found_at (y ∷ items) zero x apart at = let same : y ≡ x = cc in subst (IsFound (y ∷ items)) same (found_first y items)
found_at (y ∷ items) (suc i) x apart at = found_behind y x items (all_at (MayFollow y) items i x apart.0 at) (found_at items i x apart.1 at)

pub all_found : (items : List tree.Item) → AllPairs MayFollow items → AllByRecursion (IsFound items) items
all_found items apart = all_from (IsFound items) items (λ i x at. found_at items i x apart at)
