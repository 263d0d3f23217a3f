-- In a checked unit the first definition of a symbol is the first of its name.
use Rattle.crun_startup.proofs.Common.{◌≡◌, ℕ, ◌+◌, Bool, true, false, List, [], ◌∷◌, if◌then◌else◌, slice_get, Some, None, filter, Option}
use Rattle.crun_startup.proofs.Common.{bytes_eq, sym, refl, ◌∙◌, bytes_eq-Decides, list_all, left_holds, right_holds, Name, CType}
use Rattle.crun_startup.proofs.Common.{none_clash, stands_behind, Definition, defined, defined_for_all, definitions_from, first_under}
use Rattle.crun_startup.proofs.Common.{seen_under, first_defined, none_under}
use Rattle.c_tree.specs.Tree as tree

function_first : (k : ℕ) (q : Name) (d : Definition) (items : List tree.Item) (is_static : Bool) (result : CType) (name : Name)
    (params : List tree.Param) (o : Option tree.Body)
    → list_all (stands_behind (tree.Function (record
    { is_static = is_static; result = result; name = name; params = params; body = o }))) items ≡ true
    → (first_under (k + 1) q items ≡ Some d → first_defined (k + 1) q items ≡ Some d)
    → first_under k q (tree.Function (record { is_static = is_static; result = result; name = name; params = params; body = o }) ∷ items)
    ≡ Some d
    → first_defined k q (tree.Function (record
    { is_static = is_static; result = result; name = name; params = params; body = o }) ∷ items) ≡ Some d
function_first k q d items true result name params None all behind e = behind e
function_first k q d items false result name params None all behind e = behind e
function_first k q d items true result name params (Some b) all behind e = by_test (bytes_eq name q) refl
  where
    g : tree.Func
    g = record { is_static = true; result = result; name = name; params = params; body = Some b }

    others : List Definition
    others = filter (λ (d : Definition). bytes_eq d.func.name q) (definitions_from (k + 1) items)

    by_test : (t : Bool) → bytes_eq name q ≡ t → slice_get (if t then record { item = k; func = g; body = b } ∷ others else others) 0
        ≡ Some d
    by_test true same = let none : first_under (k + 1) q items
        ≡ None = none_under q g b refl ((bytes_eq-Decides name q).0 same) (k + 1) items all in absurd (some_none (sym e ∙ none))
      where
        some_none : ◌≡◌ {A = Option Definition} (Some d) None → ⊥
        some_none e = cc
    by_test false same = behind e
function_first k q d items false result name params (Some b) all behind e = by_test (bytes_eq name q) e
  where
    g : tree.Func
    g = record { is_static = false; result = result; name = name; params = params; body = Some b }

    by_test : (t : Bool) → slice_get (if t then record { item = k; func = g; body = b } ∷ filter (seen_under q) (definitions_from
        (k + 1) items) else filter (seen_under q) (definitions_from (k + 1) items)) 0 ≡ Some d
        → slice_get (if t then record { item = k; func = g; body = b } ∷ filter (λ (d : Definition). bytes_eq d.func.name q)
        (definitions_from (k + 1) items) else filter (λ (d : Definition). bytes_eq d.func.name q)
        (definitions_from (k + 1) items)) 0 ≡ Some d
    by_test true h = h
    by_test false h = behind h

first_from : (k : ℕ) (q : Name) (d : Definition) (items : List tree.Item) → none_clash items ≡ true → first_under k q items ≡ Some d
    → first_defined k q items ≡ Some d
first_from k q d [] kept e = cc
first_from k q d (tree.Array name count bytes ∷ items) kept e =
    first_from (k + 1) q d items (right_holds (list_all (stands_behind (tree.Array name count bytes)) items) (none_clash items) kept) e
first_from k q d (tree.Var ty name number ∷ items) kept e =
    first_from (k + 1) q d items (right_holds (list_all (stands_behind (tree.Var ty name number)) items) (none_clash items) kept) e
first_from k q d (tree.Function g ∷ items) kept e =
    function_first k q d items g.is_static g.result g.name g.params g.body
    (left_holds (list_all (stands_behind (tree.Function g)) items) (none_clash items) kept)
    (first_from (k + 1) q d items (right_holds (list_all (stands_behind (tree.Function g)) items) (none_clash items) kept)) e

pub defined_first : (items : List tree.Item) (q : Name) (d : Definition) → none_clash items ≡ true → defined_for_all items q ≡ Some d
    → defined items q ≡ Some d
defined_first items q d kept e = first_from 0 q d items kept e
