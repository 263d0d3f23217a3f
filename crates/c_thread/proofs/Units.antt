-- The items and the tables of the units of a list.
use Rattle.c_thread.proofs.Common.{◌≡◌, ℕ, zero, suc, List, [], ◌∷◌, ◌++◌, map, slice_get, Some, None, Option, sym, refl, ap, ◌∙◌, subst}
use Rattle.c_thread.proofs.Common.{unit_of, Program, Naming, IsTables, HaveUnitTables, IsLinked, items_at}
use Rattle.c_tree.specs.Tree as tree
use Rattle.c_thread.specs.declared.control.LinkedUnit.{LinkedUnit}

abbrev item_list : Option (List tree.Item) → List tree.Item
item_list None = []
item_list (Some items) = items

-- the items of a unit of a list
pub items_so : (names : Naming) (p : Program) (units : List LinkedUnit) (u : ℕ) (l : LinkedUnit) → IsLinked names p units
    → slice_get units u ≡ Some l → items_at p u ≡ unit_of l.items.value
items_so names p units u l are here =
    ap (λ us. elim (slice_get us u) [ None ↦ [] | Some items ↦ items ]) (sym are.units_are)
    ∙ go units u l here
  where
    go : (units : List LinkedUnit) (u : ℕ) (l : LinkedUnit) → slice_get units u ≡ Some l
        → elim (slice_get (map (λ (l : LinkedUnit). unit_of l.items.value) units) u) [ None ↦ [] | Some items ↦ items ]
        ≡ unit_of l.items.value
    go [] u l e = absurd cc
    go (k ∷ units) zero l e = let same : k ≡ l = cc in ap (λ (x : LinkedUnit). unit_of x.items.value) same
    go (k ∷ units) (suc u) l e = go units u l e

pub no_items : (names : Naming) (p : Program) (units : List LinkedUnit) (u : ℕ) → IsLinked names p units → slice_get units u ≡ None
    → items_at p u ≡ []
no_items names p units u are here =
    ap (λ us. elim (slice_get us u) [ None ↦ [] | Some items ↦ items ]) (sym are.units_are)
    ∙ go units u here
  where
    go : (units : List LinkedUnit) (u : ℕ) → slice_get units u ≡ None
        → item_list (slice_get (map (λ (l : LinkedUnit). unit_of l.items.value) units) u) ≡ []
    go [] u e = refl
    go (k ∷ units) zero e = absurd cc
    go (k ∷ units) (suc u) e = go units u e

pub have_more : (units : List LinkedUnit) (l : LinkedUnit) → HaveUnitTables units → IsTables l.functions (unit_of l.items.value)
    → HaveUnitTables (units ++ l ∷ [])
have_more [] l have is zero k e = let same : l ≡ k = cc in subst (λ (x : LinkedUnit). IsTables x.functions (unit_of x.items.value)) same is
have_more [] l have is (suc u) k e = absurd cc
have_more (x ∷ units) l have is zero k e = have 0 k e
have_more (x ∷ units) l have is (suc u) k e = have_more units l (λ u k e. have (suc u) k e) is u k e
