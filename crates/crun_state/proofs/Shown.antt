-- The lines of the state are those of the objects of each unit.
use Rattle.crun_state.proofs.Common.{◌≡◌, ℕ, suc, ◌+◌, List, [], ◌∷◌, ◌++◌, map, length, slice_get, Some, None, Option, option_map, zip}
use Rattle.crun_state.proofs.Common.{flat_map, sym, refl, ap, ◌∙◌, arith, length-map, slice_get-map, range_with_len, Host, unit_of, Item}
use Rattle.crun_state.proofs.Common.{memory_of, table_of, Naming, UnitNames, value_of, memory_lines, state_lines, table_lines, unit_lines}
use Rattle.crun_state.proofs.Common.{variable_lines, naming_of, unit_names, cell_lines, held_lines, items_at, lines_if_made}
use Rattle.crun_state.proofs.Common.{lines_of_objects, lines_of_unit, table_cell_lines, zero-add}
use Rattle.c_tree.specs.Tree as tree
use Rattle.c_objects.specs.declared.store.UnitObjects.{UnitObjects}
use Rattle.c_objects.specs.Stores.{objects_of, units_of, AreStored, IsStored}
use Rattle.crun_state.proofs.Numbers.{by_number, held_seen}

module _ (hosts : List Host) (units : List (List tree.Item)) where
  abbrev names : Naming
  names = naming_of units

  unit_shown : (u : ℕ) (items : List tree.Item) (own : UnitObjects) → IsStored (unit_names items) own
      → unit_lines hosts (u, objects_of names (unit_names items) own) ≡ lines_of_objects hosts units u items own
  unit_shown u items own stored =
      let n : UnitNames = unit_names items in
      let vars = by_number (value_of names) (variable_lines u) (held_lines u) (held_seen names u) n.vars own.vars.items stored.vars_count in
      let memories = by_number memory_of (memory_lines u) (cell_lines u) (λ name cell. refl) n.memories own.memories.items
      stored.memories_count in
      let tables = by_number (table_of names) (table_lines hosts u) (table_cell_lines hosts names u) (λ name table. refl) n.tables
      own.tables.items stored.tables_count in
      (λ i. (vars i ++ memories i) ++ tables i)

  module _ (objects : List UnitObjects) where
    shown_from : (k : ℕ) (rest : List (List tree.Item)) (os : List UnitObjects) → AreStored (map unit_names rest) os
        → ((j : ℕ) → slice_get objects (k + j) ≡ slice_get os j) → ((j : ℕ) → slice_get units (k + j) ≡ slice_get rest j)
        → flat_map (unit_lines hosts)
        (zip (range_with_len k (length (units_of names (map unit_names rest) os))) (units_of names (map unit_names rest) os))
        ≡ flat_map (lines_of_unit hosts units objects) (range_with_len k (length rest))
    shown_from k [] [] stored objects_are units_are = refl
    shown_from k (items ∷ rest) (own ∷ os) stored objects_are units_are =
        let here : k ≡ k + 0 = omega arith in
        let at : slice_get objects k ≡ Some own = ap (slice_get objects) here ∙ objects_are 0 in
        let items_are : items_at units k ≡ items =
        ap (λ o. elim o [ None ↦ [] | Some items ↦ items ]) (ap (slice_get units) here ∙ units_are 0) in
        let next : (j : ℕ) → k + 1 + j ≡ k + suc j = λ j. omega arith in
        let first = unit_shown k items own stored.0 ∙ ap (λ us. lines_of_objects hosts units k us own) (sym items_are)
        ∙ sym (ap (lines_if_made hosts units k) at) in
        let others = shown_from (k + 1) rest os stored.1 (λ j. ap (slice_get objects) (next j) ∙ objects_are (suc j))
        (λ j. ap (slice_get units) (next j) ∙ units_are (suc j)) in
        (λ i. first i ++ others i)
    shown_from k _ _ stored objects_are units_are = absurd stored

    all_shown : AreStored names objects
        → state_lines hosts (units_of names names objects) ≡ flat_map (lines_of_unit hosts units objects) (range_with_len 0 (length units))
    all_shown stored =
        shown_from 0 units objects stored (λ j. ap (slice_get objects) (zero-add j)) (λ j. ap (slice_get units) (zero-add j))

pub state_shown : (hosts : List Host) (units : List (List Item)) (objects : List UnitObjects)
    → AreStored (naming_of (map unit_of units)) objects
    → state_lines hosts (units_of (naming_of (map unit_of units)) (naming_of (map unit_of units)) objects)
    ≡ flat_map (lines_of_unit hosts (map unit_of units) objects) (range_with_len 0 (length units))
state_shown hosts units objects stored = all_shown hosts (map unit_of units) objects stored
    ∙ ap (λ n. flat_map (lines_of_unit hosts (map unit_of units) objects) (range_with_len 0 n)) (length-map units unit_of)

-- ---- the items of a unit that was found

pub items_found : (units : List (List Item)) (u : ℕ) (found : Option (List Item)) → found ≡ slice_get units u
    → elim (option_map unit_of found) [ None ↦ [] | Some items ↦ items ] ≡ items_at (map unit_of units) u
items_found units u found is = ap (λ o. elim o [ None ↦ [] | Some items ↦ items ])
    (ap (option_map unit_of) is ∙ sym (slice_get-map unit_of units u))
