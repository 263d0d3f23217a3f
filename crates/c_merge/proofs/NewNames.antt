-- The names that the one unit declares, by those of its units.
use Rattle.c_merge.proofs.Common.{◌≡◌, ℕ, true, false, not, ◌||◌, ◌≢◌, List, [], ◌∷◌, map, if◌then◌else◌, slice_get, Some, option_map}
use Rattle.c_merge.proofs.Common.{bytes_eq, sym, refl, ap, ◌∙◌, subst, both_ways, not-true, bytes_eq-Decides, by_test, file_name_is_free}
use Rattle.c_merge.proofs.Common.{is_own_name, func_type_of, function_of, is_among, name_of, variable_of, bytes_differ, bytes_equal}
use Rattle.c_merge.proofs.Common.{Program, Name, depth_name, func_type_of-func, is_outside, name_in, Renaming, merge_names}
use Rattle.c_tree.specs.Tree as tree
use Rattle.c_renaming.specs.Renamed as renamed
use Rattle.c_renaming.proofs.NewNames.{new_names}
use Rattle.c_merge.proofs.Together.{FitTogether, Shows}
use Rattle.c_merge.proofs.Units.{own_not_depth, func_seen}

-- a name of a function in the one unit
abbrev pub new : ℕ → Name → Name
new u n = if is_outside n then n else name_in u n

-- a name of a variable
abbrev pub new_var : ℕ → Name → Name
new_var u n = if bytes_eq n depth_name then n else name_in u n

pub outside_stays : (u : ℕ) (n : Name) → is_outside n ≡ true → new u n ≡ n
outside_stays u n is = ap (λ b. if b then n else name_in u n) is

pub inside_new : (u : ℕ) (n : Name) → is_outside n ≡ false → new u n ≡ name_in u n
inside_new u n is = ap (λ b. if b then n else name_in u n) is

pub own_new : (u : ℕ) (n : Name) → is_own_name n ≡ true → new u n ≡ name_in u n
own_new u n own = inside_new u n (ap not own)

pub own_var : (u : ℕ) (n : Name) → is_own_name n ≡ true → new_var u n ≡ name_in u n
own_var u n own = ap (λ b. if b then n else name_in u n) (own_not_depth n own)

in_other_unit : (u w : ℕ) → w ≢ u → (m n : Name) → bytes_eq (name_in w m) (name_in u n) ≡ false
in_other_unit u w differ m n = bytes_differ (name_in w m) (name_in u n) (λ e. differ (new_names.same_unit w u m n e))

-- an own name of another unit is no variable's name in this one
pub var_apart : (u w : ℕ) → w ≢ u → (m n : Name) → is_own_name m ≡ true → bytes_eq (new_var w m) (new_var u n) ≡ false
var_apart u w differ m n own = ap (λ x. bytes_eq x (new_var u n)) (own_var w m own) ∙ by_test (bytes_eq n depth_name)
    (λ is. ap (λ b. bytes_eq (name_in w m) (if b then n else name_in u n)) is
    ∙ ap (bytes_eq (name_in w m)) ((bytes_eq-Decides n depth_name).0 is) ∙ new_names.not_depth w m)
    (λ is. ap (λ b. bytes_eq (name_in w m) (if b then n else name_in u n)) is ∙ in_other_unit u w differ m n)

-- names of two units that are equal are outside, and were equal
pub record SameNew (m n : Name) : Type 0 where
  pub same : m ≡ n
  pub outside : is_outside n ≡ true

pub new_same : (u w : ℕ) → w ≢ u → (m n : Name) → new w m ≡ new u n → SameNew m n
new_same u w differ m n e = by_test (is_outside m)
    (λ out. by_test (is_outside n)
    (λ out'. record { same = sym (outside_stays w m out) ∙ e ∙ outside_stays u n out'; outside = out' })
    (λ inn'. absurd (both_ways (is_outside (name_in u n)) refl
    (ap is_outside (sym (inside_new u n inn') ∙ sym e ∙ outside_stays w m out) ∙ out))))
    (λ inn. by_test (is_outside n)
    (λ out'. absurd (both_ways (is_outside (name_in w m)) refl
    (ap is_outside (sym (inside_new w m inn) ∙ e ∙ outside_stays u n out') ∙ out')))
    (λ inn'. absurd (differ (new_names.same_unit w u m n (sym (inside_new w m inn) ∙ e ∙ inside_new u n inn')))))

-- in one unit names that differ stay so
pub new_keeps : (u : ℕ) (m n : Name) → bytes_eq (new u m) (new u n) ≡ bytes_eq m n
new_keeps u m n = by_test (bytes_eq m n)
    (λ is. let same : m ≡ n = (bytes_eq-Decides m n).0 is in subst (λ (x : Name). bytes_eq (new u m) (new u x) ≡ bytes_eq m n)
    same (bytes_equal (new u m) ∙ sym is))
    (λ is. bytes_differ (new u m) (new u n) (differ (λ equal. both_ways (bytes_eq m n) is equal)) ∙ sym is)
  where
    apart : (m ≡ n → ⊥) → new u m ≡ new u n → ⊥
    apart other e = by_test (is_outside m)
        (λ out. by_test (is_outside n)
        (λ out'. other (sym (outside_stays u m out) ∙ e ∙ outside_stays u n out'))
        (λ inn'. both_ways (is_outside (name_in u n)) refl
        (ap is_outside (sym (inside_new u n inn') ∙ sym e ∙ outside_stays u m out) ∙ out)))
        (λ inn. by_test (is_outside n)
        (λ out'. both_ways (is_outside (name_in u m)) refl (ap is_outside (sym (inside_new u m inn) ∙ e ∙ outside_stays u n out') ∙ out'))
        (λ inn'. other (new_names.same_name u u m n (sym (inside_new u m inn) ∙ e ∙ inside_new u n inn'))))

    differ : (bytes_eq m n ≡ true → ⊥) → new u m ≡ new u n → ⊥
    differ not_equal e = apart (λ same. not_equal ((bytes_eq-Decides m n).1 same)) e

module _ (p : Program) where
  abbrev ρ : Renaming
  ρ = merge_names p

  -- the name of an item
  pub item_name : (u : ℕ) (item : tree.Item) → file_name_is_free item ≡ true → name_of (renamed.item ρ u item) ≡ new u (name_of item)
  item_name u (tree.Array n count bytes) own = own_var u n own ∙ sym (own_new u n own)
  item_name u (tree.Var t n number) own = own_var u n own ∙ sym (own_new u n own)
  item_name u (tree.Function f) own = refl

  pub variable_item : (u : ℕ) (item : tree.Item)
      → variable_of (renamed.item ρ u item) ≡ option_map (λ e. (new_var u e.0, e.1)) (variable_of item)
  variable_item u (tree.Array n count bytes) = refl
  variable_item u _ = refl

  pub function_item : (u : ℕ) (item : tree.Item)
      → function_of (renamed.item ρ u item) ≡ option_map (λ e. (new u e.0, e.1)) (function_of item)
  function_item u (tree.Function f) = ap (λ t. Some (new u f.name, t)) (func_type_of-func ρ u f)
  function_item u _ = refl

-- ---- functions of one name have one type

module _ (p : Program) (are : FitTogether p.units) where
  shows : (u : ℕ) (items : List tree.Item) (i : ℕ) (g : tree.Func) → slice_get p.units u ≡ Some items
      → slice_get items i ≡ Some (tree.Function g) → is_outside g.name ≡ true → Shows p.units u g
  shows u items i g at_u at_i outside = record {
    items = items;
    there = at_u;
    item = i;
    at = at_i;
    shown = not-true g.is_static (sym (func_seen items (are.kept u items at_u) i g at_i) ∙ outside);
  }

  -- functions of two units that are seen under one name
  pub one_type : (u w : ℕ) (items others : List tree.Item) (i j : ℕ) (f g : tree.Func) → slice_get p.units u ≡ Some items
      → slice_get p.units w ≡ Some others
      → slice_get items i ≡ Some (tree.Function f) → slice_get others j ≡ Some (tree.Function g) → f.name ≡ g.name
      → is_outside f.name ≡ true
      → func_type_of f ≡ func_type_of g
  one_type u w items others i j f g at_u at_w at_i at_j same outside =
      are.typed u w f g (shows u items i f at_u at_i outside) (shows w others j g at_w at_j (sym (ap is_outside same) ∙ outside)) same

-- ---- among others

pub among_map : (f : Name → Name) → ((m n : Name) → bytes_eq (f m) (f n) ≡ bytes_eq m n) → (n : Name) (xs : List Name)
    → is_among (f n) (map f xs) ≡ is_among n xs
among_map f keeps n [] = refl
among_map f keeps n (x ∷ xs) = λ i. keeps n x i || among_map f keeps n xs i
