-- The definitions of a part, and what is found among them.
use Rattle.c_renaming.proofs.Common.{◌≡◌, ℕ, ◌+◌, Bool, true, ◌&&◌, List, [], ◌∷◌, ◌++◌, map, length, slice_get, filter, Option, option_map}
use Rattle.c_renaming.proofs.Common.{zip, filter_map, bytes_eq, sym, refl, ap, ◌∙◌, subst, arith, filter-append, filter_map-append}
use Rattle.c_renaming.proofs.Common.{bytes_eq-Decides, range_with_len, option_or, first-append, or_map, Definition, defined}
use Rattle.c_renaming.proofs.Common.{defined_for_all, definition_of, is_external, typed, Name, Each, IsApart, Numbered, Placed, part}
use Rattle.c_renaming.proofs.Common.{Renaming, right_holds, or_none}
use Rattle.std.proofs.Math.Bool.{and-false}
use Rattle.c_tree.specs.Tree as tree
use Rattle.c_meaning.proofs.Fronts.{zip_from}
use Rattle.c_renaming.specs.Renamed as renamed

-- definitions of items with the numbers from k on
abbrev pub definitions_from : ℕ → List tree.Item → List Definition
definitions_from k items = filter_map definition_of (zip (range_with_len k (length items)) items)

pub definitions-append : (k : ℕ) (xs ys : List tree.Item)
    → definitions_from k (xs ++ ys) ≡ definitions_from k xs ++ definitions_from (k + length xs) ys
definitions-append k xs ys = ap (filter_map definition_of) (zip_from k xs ys)
    ∙ filter_map-append definition_of (zip (range_with_len k (length xs)) xs) (zip (range_with_len (k + length xs) (length ys)) ys)

abbrev first : {A : Type 0} → List A → Option A
first items = slice_get items 0

pub first-map : {A B : Type 0} (f : A → B) (xs : List A) → first (map f xs) ≡ option_map f (first xs)
first-map f [] = refl
first-map f (x ∷ xs) = refl

-- ---- a part's definitions are those that stay, renamed

module _ (ρ : Renaming) (u : ℕ) (stays : Name → Bool) where
  pub definitions_part : (k at : ℕ) (items : List tree.Item) → Numbered ρ u stays k at items
      → definitions_from at (part ρ u stays items)
      ≡ map (renamed.definition ρ u) (filter (λ d. stays d.func.name) (definitions_from k items))
  definitions_part k at [] numbers = refl
  definitions_part k at (tree.Array name count bytes ∷ items) numbers = definitions_part (k + 1) (at + 1) items numbers.1
  definitions_part k at (tree.Var ty name number ∷ items) numbers = definitions_part (k + 1) (at + 1) items numbers.1
  definitions_part k at (tree.Function f ∷ items) numbers =
      grind (arith, definitions_part (k + 1) (at + 1) items, definitions_part (k + 1) at items)

  -- tests that tell the same find the same
  pub filter_part : (t t' : Definition → Bool) (ds : List Definition) → ((d : Definition) → t' (renamed.definition ρ u d) ≡ t d)
      → ((d : Definition) → t d ≡ true → stays d.func.name ≡ true)
      → filter t' (map (renamed.definition ρ u) (filter (λ d. stays d.func.name) ds)) ≡ map (renamed.definition ρ u) (filter t ds)
  filter_part t t' [] tells stay = refl
  filter_part t t' (d ∷ ds) tells stay = grind (arith, filter_part t t' ds tells stay)

-- ---- definitions that pass a test besides their name, which tells the same under the renaming

abbrev pub passes : (Definition → Bool) → Name → Definition → Bool
passes t x d = t d && bytes_eq d.func.name x

-- ---- items of other units

pub none_apart : (ρ : Renaming) (u : ℕ) (t : Definition → Bool) (x : Name) → ρ.defines u x ≡ true
    → (k : ℕ) (ys : List tree.Item) → Each (IsApart ρ u) ys
    → filter (passes t (ρ.func u x)) (definitions_from k ys) ≡ []
none_apart ρ u t x is k [] apart = refl
none_apart ρ u t x is k (tree.Array name count bytes ∷ ys) apart = none_apart ρ u t x is (k + 1) ys apart.1
none_apart ρ u t x is k (tree.Var ty name number ∷ ys) apart = none_apart ρ u t x is (k + 1) ys apart.1
none_apart ρ u t x is k (tree.Function f ∷ ys) apart = grind (arith, none_apart ρ u t x is (k + 1) ys apart.1, apart.0 x is, and-false)

-- ---- what a name of the unit stands for among the second's definitions

pub passing_placed : (ρ : Renaming) (u : ℕ) (items new : List tree.Item) → Placed ρ u items new
    → ((x y : Name) → bytes_eq (ρ.func u x) (ρ.func u y) ≡ bytes_eq x y)
    → (t : Definition → Bool) → ((d : Definition) → t (renamed.definition ρ u d) ≡ t d)
    → (x : Name) → ρ.defines u x ≡ true
    → first (filter (passes t (ρ.func u x)) (definitions_from 0 new))
    ≡ option_map (renamed.definition ρ u) (first (filter (passes t x) (definitions_from 0 items)))
passing_placed ρ u items new placed same t tells x is =
    ap (λ l. first (filter test (definitions_from 0 l))) placed.is
    ∙ ap (λ l. first (filter test l))
    (definitions-append 0 placed.front (middle ++ placed.back)
    ∙ ap (λ k. definitions_from 0 placed.front ++ definitions_from k (middle ++ placed.back)) from
    ∙ ap (λ l. definitions_from 0 placed.front ++ l) (definitions-append (length placed.front) middle placed.back))
    ∙ ap first (filter-append test (definitions_from 0 placed.front)
    (definitions_from (length placed.front) middle ++ definitions_from (length placed.front + length middle) placed.back))
    ∙ ap (λ l. first (l ++ filter test
    (definitions_from (length placed.front) middle ++ definitions_from (length placed.front + length middle) placed.back)))
    (none_apart ρ u t x is 0 placed.front placed.front_apart)
    ∙ ap first (filter-append test (definitions_from (length placed.front) middle)
    (definitions_from (length placed.front + length middle) placed.back))
    ∙ ap (λ l. first (filter test (definitions_from (length placed.front) middle) ++ l))
    (none_apart ρ u t x is (length placed.front + length middle) placed.back placed.back_apart)
    ∙ first-append (filter test (definitions_from (length placed.front) middle)) []
    ∙ or_none (first (filter test (definitions_from (length placed.front) middle)))
    ∙ ap (λ l. first (filter test l)) (definitions_part ρ u placed.stays 0 (length placed.front) items placed.numbers)
    ∙ ap first (filter_part ρ u placed.stays (passes t x) test (definitions_from 0 items) (λ d i. tells d i && same d.func.name x i) stay)
    ∙ first-map (renamed.definition ρ u) (filter (passes t x) (definitions_from 0 items))
  where
    test : Definition → Bool
    test = passes t (ρ.func u x)

    middle : List tree.Item
    middle = part ρ u placed.stays items

    from : 0 + length placed.front ≡ length placed.front
    from = omega arith

    stay : (d : Definition) → passes t x d ≡ true → placed.stays d.func.name ≡ true
    stay d e = subst (λ (n : Name). placed.stays n ≡ true)
        (sym ((bytes_eq-Decides d.func.name x).0 (right_holds (t d) (bytes_eq d.func.name x) e))) (placed.defined_stay x is)

-- the definition of a name, and its definition for other units
pub defined_placed : (ρ : Renaming) (u : ℕ) (items new : List tree.Item) → Placed ρ u items new
    → ((x y : Name) → bytes_eq (ρ.func u x) (ρ.func u y) ≡ bytes_eq x y) → (x : Name) → ρ.defines u x ≡ true
    → defined new (ρ.func u x) ≡ option_map (renamed.definition ρ u) (defined items x)
defined_placed ρ u items new placed same x is = passing_placed ρ u items new placed same (λ d. true) (λ d. refl) x is

pub typed_placed : (ρ : Renaming) (u : ℕ) (items new : List tree.Item) → Placed ρ u items new
    → ((x y : Name) → bytes_eq (ρ.func u x) (ρ.func u y) ≡ bytes_eq x y) → (x : Name) → ρ.defines u x ≡ true
    → typed new (ρ.func u x) ≡ option_map (renamed.definition ρ u) (typed items x)
typed_placed ρ u items new placed same x is =
    (λ i. option_or (passing_placed ρ u items new placed same is_external (λ d. refl) x is i)
    (defined_placed ρ u items new placed same x is i))
    ∙ or_map (renamed.definition ρ u) (defined_for_all items x) (defined items x)
