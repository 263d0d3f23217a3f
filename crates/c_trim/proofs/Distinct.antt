-- In a unit that keeps the rules no two objects of a kind have one name.
use Rattle.c_trim.proofs.Common.{◌≡◌, Bool, true, false, not, ◌||◌, List, [], ◌∷◌, ◌++◌, map, length, Some, None, Option, option_map}
use Rattle.c_trim.proofs.Common.{filter_map, bytes_eq, sym, refl, ap, ◌∙◌, subst, list_all-append, AllByRecursion, cons_option, list_all, ⊤}
use Rattle.c_trim.proofs.Common.{both_hold, of_each, Name, name_of, file_memory, file_table, file_var, CValue, Memory, Table, AreDistinct}
use Rattle.c_trim.proofs.Common.{unlike_back, arith}
use Rattle.w2c_base.proofs.Places.{take_front}
use Rattle.c_tree.specs.Tree as tree
use Rattle.c_tree.specs.Rules as rule
use Rattle.c_renaming.specs.Kept as text
use Rattle.c_trim.proofs.RulesHold.{ItemsHold, moved}

-- the two may be declared one after the other
abbrev pub may_follow : tree.Item → tree.Item → Bool
may_follow x y = not (bytes_eq (name_of x) (name_of y)) || rule.may_both_stand x y

follow_all : (before items : List tree.Item) → ItemsHold (before ++ items) (length before) items
    → AllByRecursion (λ (y : tree.Item). list_all (λ x. may_follow x y) before ≡ true) items
follow_all before [] hold = tt
follow_all before (y ∷ items) hold = (
  sym (ap (list_all (λ x. may_follow x y)) (take_front before (y ∷ items))) ∙ hold.0.0.0,
  of_each (λ (z : tree.Item). list_all (λ x. may_follow x z) (before ++ y ∷ []) ≡ true)
      (λ (z : tree.Item). list_all (λ x. may_follow x z) before ≡ true)
      (λ z e. (both_hold (list_all (λ x. may_follow x z) before) (list_all (λ x. may_follow x z) (y ∷ []))
      (sym (list_all-append (λ x. may_follow x z) before (y ∷ [])) ∙ e)).0) items
      (follow_all (before ++ y ∷ []) items (moved before y items hold.1)),
)

abbrev pub InOrder : List tree.Item → Type 0
InOrder [] = ⊤
InOrder (x ∷ items) = AllByRecursion (λ (y : tree.Item). may_follow x y ≡ true) items × InOrder items

pub in_order : (before items : List tree.Item) → ItemsHold (before ++ items) (length before) items → InOrder items
in_order before [] hold = tt
in_order before (x ∷ items) hold = (
  of_each (λ (z : tree.Item). list_all (λ y. may_follow y z) (before ++ x ∷ []) ≡ true) (λ (z : tree.Item). may_follow x z ≡ true)
      (λ z e. (both_hold (may_follow x z) true
      (both_hold (list_all (λ y. may_follow y z) before) (list_all (λ y. may_follow y z) (x ∷ []))
      (sym (list_all-append (λ y. may_follow y z) before (x ∷ [])) ∙ e)).1).0) items
      (follow_all (before ++ x ∷ []) items (moved before x items hold.1)),
  in_order (before ++ x ∷ []) items (moved before x items hold.1),
)

-- what an item declares under its name, where that is no function
module _ {X : Type 0} (f : tree.Item → Option (Name × X))
    (declares : (x : tree.Item) (e : Name × X) → f x ≡ Some e → (name_of x ≡ e.0) × ((y : tree.Item) → rule.may_both_stand x y
    ≡ false)) where
  abbrev names : List tree.Item → List Name
  names items = map (λ (e : Name × X). e.0) (filter_map f items)

  differ : (x y : tree.Item) → ((z : tree.Item) → rule.may_both_stand x z ≡ false) → may_follow x y ≡ true
      → bytes_eq (name_of y) (name_of x) ≡ false
  differ x y alone e = grind (arith, rule.may_both_stand x y, unlike_back)

  apart : (x : tree.Item) → ((z : tree.Item) → rule.may_both_stand x z ≡ false) → (items : List tree.Item)
      → AllByRecursion (λ (y : tree.Item). may_follow x y ≡ true) items → text.Each (λ y. bytes_eq y (name_of x) ≡ false) (names items)
  apart x alone [] all = tt
  apart x alone (y ∷ items) all = grind (arith, apart x alone items all.1, differ x y alone all.0)

  are_distinct : (items : List tree.Item) → InOrder items → AreDistinct (names items)
  are_distinct [] order = tt
  are_distinct (x ∷ items) order = by (f x) refl (are_distinct items order.1)
    where
      by : (o : Option (Name × X)) → f x ≡ o → AreDistinct (names items)
          → AreDistinct (map (λ (e : Name × X). e.0) (cons_option o (filter_map f items)))
      by None is behind = behind
      by (Some e) is behind =
          let two = declares x e is in
          (subst (λ (n : Name). text.Each (λ y. bytes_eq y n ≡ false) (names items)) two.0 (apart x two.1 items order.0), behind)

  pub names_distinct : (unit : List tree.Item) → ItemsHold unit 0 unit → AreDistinct (names unit)
  names_distinct unit hold = are_distinct unit (in_order [] unit hold)

-- ---- the three kinds

beside : {X : Type 0} (name : Name) (o : Option X) (e : Name × X) → option_map (λ v. (name, v)) o ≡ Some e → name ≡ e.0
beside name None e is = cc
beside name (Some v) e is = cc

pub var_declares : (x : tree.Item) (e : Name × CValue) → file_var x ≡ Some e → (name_of x ≡ e.0) × ((y : tree.Item)
    → rule.may_both_stand x y ≡ false)
var_declares (tree.Var ty name None) e is = (beside name _ e is, λ y. refl)
var_declares (tree.Var ty name (Some number)) e is = (beside name _ e is, λ y. refl)
var_declares _ e is = cc

pub memory_declares : (x : tree.Item) (e : Name × Memory) → file_memory x ≡ Some e → (name_of x ≡ e.0) × ((y : tree.Item)
    → rule.may_both_stand x y ≡ false)
memory_declares (tree.Var ty name number) e is = grind arith
memory_declares _ e is = cc

pub table_declares : (x : tree.Item) (e : Name × Table) → file_table x ≡ Some e → (name_of x ≡ e.0) × ((y : tree.Item)
    → rule.may_both_stand x y ≡ false)
table_declares (tree.Var ty name number) e is = grind arith
table_declares _ e is = cc
