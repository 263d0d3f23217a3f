-- In a checked unit the names of objects have letters, and no two of them are equal, within a kind and
-- between kinds.
use Rattle.crun_startup.proofs.Common.{◌≡◌, Bool, true, false, not, ◌&&◌, ◌||◌, List, [], ◌∷◌, is_some, if◌then◌else◌, Some, None, Option}
use Rattle.crun_startup.proofs.Common.{bytes_eq, sym, refl, ◌∙◌, AllByRecursion, cons_option, list_all, left_holds, right_holds, same_type}
use Rattle.crun_startup.proofs.Common.{Name, name_of, IsName, NamedItem, CType, Num, none_clash, stands_behind, AreApart, AreNames, Differ}
use Rattle.crun_startup.proofs.Common.{has_object, names_in, var_value, true≢false}
use Rattle.std.proofs.lemmas.Bool.{false≢true}
use Rattle.w2c_base.proofs.Tests.{unlike_back}
use Rattle.c_tree.specs.declared.tree.CType.TheVariants as type
use Rattle.c_tree.specs.declared.tree.Num.TheVariants.{N32}
use Rattle.c_tree.specs.Tree as tree
use Rattle.crun_startup.specs.declared.names.ObjectKind.{ObjectKind}
use Rattle.crun_startup.specs.declared.names.ObjectKind.TheVariants as kind

-- an item that declares an object is no function
module _ (k : ObjectKind) where
  clash_function : (f : tree.Func) → has_object k (tree.Function f) ≡ true → ⊥
  clash_function f e = go k e
    where
      go : (k : ObjectKind) → has_object k (tree.Function f) ≡ true → ⊥
      go kind.Variable e = cc
      go _ e = cc

  -- behind an item of this name no object has it
  clash_here : (x item : tree.Item) → has_object k item ≡ true → stands_behind x item ≡ true → bytes_eq (name_of x) (name_of item) ≡ false
  clash_here x (tree.Array name count bytes) has e = absurd (no_array k has)
    where
      no_array : (k : ObjectKind) → has_object k (tree.Array name count bytes) ≡ true → ⊥
      no_array kind.Variable e = cc
      no_array _ e = cc
  clash_here x (tree.Function f) has e = absurd (clash_function f has)
  clash_here (tree.Array name count bytes) (tree.Var ty y number) has e = differ (bytes_eq name y) e
    where
      differ : (b : Bool) → (not b || (false && not (false && false))) ≡ true → b ≡ false
      differ true e = cc
      differ false e = refl
  clash_here (tree.Var t name n) (tree.Var ty y number) has e = differ (bytes_eq name y) e
    where
      differ : (b : Bool) → (not b || (false && not (false && false))) ≡ true → b ≡ false
      differ true e = cc
      differ false e = refl
  clash_here (tree.Function f) (tree.Var ty y number) has e = differ (bytes_eq f.name y) (is_some f.body) e
    where
      differ : (b m : Bool) → (not b || (false && not (m && false))) ≡ true → b ≡ false
      differ true m e = cc
      differ false m e = refl

  differs_later : (x : tree.Item) (items : List tree.Item) → list_all (stands_behind x) items ≡ true
      → AllByRecursion (Differ (name_of x)) (names_in k items)
  differs_later x [] e = tt
  differs_later x (item ∷ items) e =
      by_test (has_object k item) refl (differs_later x items (right_holds (stands_behind x item) (list_all (stands_behind x) items) e))
    where
      by_test : (b : Bool) → has_object k item ≡ b → AllByRecursion (Differ (name_of x)) (names_in k items)
          → AllByRecursion (Differ (name_of x)) (cons_option (if b then Some (name_of item) else None) (names_in k items))
      by_test false has rest = rest
      by_test true has rest =
          let one = clash_here x item has (left_holds (stands_behind x item) (list_all (stands_behind x) items) e) in
          ((one, unlike_back (name_of x) (name_of item) one), rest)

has_letters : (name : Name) → IsName name → Differ [] name
has_letters [] is = absurd (false≢true is)
has_letters (b ∷ bs) is = (refl, refl)

letters : (item : tree.Item) → NamedItem item → Differ [] (name_of item)
letters (tree.Array name count bytes) named = has_letters name named
letters (tree.Var ty name number) named = has_letters name named
letters (tree.Function f) named = has_letters f.name named.0

-- ---- names of a kind

pub are_names : (k : ObjectKind) (items : List tree.Item) → none_clash items ≡ true → AllByRecursion NamedItem items
    → AreNames (names_in k items)
are_names k [] kept named = tt
are_names k (item ∷ items) kept named =
    by_test (has_object k item) (are_names k items (right_holds (list_all (stands_behind item) items) (none_clash items) kept) named.1)
  where
    by_test : (b : Bool) → AreNames (names_in k items) → AreNames (cons_option (if b then Some (name_of item) else None) (names_in k items))
    by_test false rest = rest
    by_test true rest =
        (letters item named.0, differs_later k item items (left_holds (list_all (stands_behind item) items) (none_clash items) kept), rest)

-- ---- names of two kinds

apart_more : (xs : List Name) (y : Name) (ys : List Name) → AllByRecursion (Differ y) xs → AreApart xs ys → AreApart xs (y ∷ ys)
apart_more [] y ys all are = tt
apart_more (x ∷ xs) y ys all are = (((all.0.1, all.0.0), are.0), apart_more xs y ys all.1 are.1)

module _ (k l : ObjectKind) (only : (item : tree.Item) → has_object k item ≡ true → has_object l item ≡ false) where
  pub are_apart : (items : List tree.Item) → none_clash items ≡ true → AreApart (names_in k items) (names_in l items)
  are_apart [] kept = tt
  are_apart (item ∷ items) kept =
      by_tests (has_object k item) (has_object l item) refl refl
      (are_apart items (right_holds (list_all (stands_behind item) items) (none_clash items) kept))
    where
      stands : list_all (stands_behind item) items ≡ true
      stands = left_holds (list_all (stands_behind item) items) (none_clash items) kept

      by_tests : (b c : Bool) → has_object k item ≡ b → has_object l item ≡ c → AreApart (names_in k items) (names_in l items)
          → AreApart (cons_option (if b then Some (name_of item) else None) (names_in k items))
          (cons_option (if c then Some (name_of item) else None) (names_in l items))
      by_tests false false e f rest = rest
      by_tests true false e f rest = (differs_later l item items stands, rest)
      by_tests false true e f rest =
          apart_more (names_in k items) (name_of item) (names_in l items) (differs_later k item items stands) rest
      by_tests true true e f rest = absurd (true≢false (sym f ∙ only item e))

-- an item declares an object of one kind
no_memory_value : (ty : CType) (n : Option Num) (name : Name) → is_some (var_value (tree.Var ty name n)) ≡ true
    → same_type ty type.Mem ≡ false
no_memory_value type.Mem None name e = cc
no_memory_value type.Mem (Some (N32 n)) name e = cc
no_memory_value type.Mem (Some _) name e = cc
no_memory_value _ n name e = refl

no_table_value : (ty : CType) (n : Option Num) (name : Name) → is_some (var_value (tree.Var ty name n)) ≡ true
    → same_type ty type.Tab ≡ false
no_table_value type.Tab None name e = cc
no_table_value type.Tab (Some (N32 n)) name e = cc
no_table_value type.Tab (Some _) name e = cc
no_table_value _ n name e = refl

pub no_memory : (item : tree.Item) → has_object kind.Variable item ≡ true → has_object kind.Memory item ≡ false
no_memory (tree.Var ty name n) e = no_memory_value ty n name e
no_memory _ e = refl

pub no_table : (item : tree.Item) → has_object kind.Variable item ≡ true → has_object kind.Table item ≡ false
no_table (tree.Var ty name n) e = no_table_value ty n name e
no_table _ e = refl

memory_no_table : (ty : CType) → same_type ty type.Mem ≡ true → same_type ty type.Tab ≡ false
memory_no_table type.Tab e = cc
memory_no_table _ e = refl

pub memory_or_table : (item : tree.Item) → has_object kind.Memory item ≡ true → has_object kind.Table item ≡ false
memory_or_table (tree.Var ty name n) e = memory_no_table ty e
memory_or_table _ e = refl
