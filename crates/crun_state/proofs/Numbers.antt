-- The lines of objects by the numbers of their names.
use Rattle.crun_state.proofs.Common.{◌≡◌, ℕ, zero, suc, ◌+◌, ◌<◌, ◌≤◌, List, [], ◌∷◌, ◌++◌, map, length, get_or, slice_get, Some, None}
use Rattle.crun_state.proofs.Common.{Option, option_map, zip, flat_map, sym, refl, ap, ◌∙◌, arith, get_or-map, length-map, AllByRecursion}
use Rattle.crun_state.proofs.Common.{range_with_len, Host, element_of, Naming, value_of, element_lines, length_line, variable_lines}
use Rattle.crun_state.proofs.Common.{entry_of, entry_at, entry_lines, held_lines, length_and_elements, lines_at, lines_at_place}
use Rattle.crun_state.proofs.Common.{lines_if_there, lines_in_order, table_cell_lines}
use Rattle.std.specs.declared.cmp.Ordering.{Ordering}
use Rattle.std.specs.declared.cmp.Ordering.TheVariants.{Less, Equal, Greater}
use Rattle.std.specs.Ordering.{match_ordering}
use Rattle.std.specs.BTreeMap.{insert_entry}
use Rattle.w2c_base.specs.Lookup.{at_index}
use Rattle.c_meaning.specs.State.{Name}
use Rattle.c_objects.specs.declared.held.Held.{Held}
use Rattle.c_objects.specs.declared.held.Held.TheVariants as held
use Rattle.c_objects.specs.declared.table.Entry.{Entry}
use Rattle.c_objects.specs.declared.table.TableCell.{TableCell}
use Rattle.crun_lines.specs.declared.names.Numbered.{Numbered}
use Rattle.crun_lines.specs.NameOrder.{in_order, name_order, numbered_from, put_in_order}
use Rattle.crun_lines.proofs.ByNumber.{beside, found_by_number}

-- ---- names in order have numbers of names

module _ (n : ℕ) where
  abbrev IsBelow : Name × ℕ → Type 0
  IsBelow e = e.1 < n

  abbrev put : Ordering → Name → ℕ → Name × ℕ → List (Name × ℕ) → List (Name × ℕ)
  put o k v e entries = match_ordering o ((k, v) ∷ e ∷ entries) ((e.0, v) ∷ entries) (e ∷ insert_entry name_order entries k v)

  inserted : (entries : List (Name × ℕ)) (k : Name) (v : ℕ) → v < n → AllByRecursion IsBelow entries
      → AllByRecursion IsBelow (insert_entry name_order entries k v)
  inserted [] k v less all = (less, tt)
  inserted (e ∷ entries) k v less all = by (inserted entries k v less all.1) (name_order k e.0)
    where
      by : AllByRecursion IsBelow (insert_entry name_order entries k v) → (o : Ordering) → AllByRecursion IsBelow (put o k v e entries)
      by rest Less = (less, all)
      by rest Equal = (less, all.1)
      by rest Greater = (all.0, rest)

  placed : (front entries : List (Name × ℕ)) → AllByRecursion IsBelow front → AllByRecursion IsBelow entries
      → AllByRecursion IsBelow (put_in_order front entries)
  placed front [] all more = all
  placed front (e ∷ entries) all more = placed (insert_entry name_order front e.0 e.1) entries (inserted front e.0 e.1 more.0 all) more.1

  numbers : (k : ℕ) (names : List Name) → k + length names ≤ n → AllByRecursion IsBelow (numbered_from k names)
  numbers k [] most = tt
  numbers k (name ∷ names) most = (omega (arith, most), numbers (k + 1) names (omega (arith, most)))

  in_order_below : (names : List Name) → length names ≤ n → AllByRecursion IsBelow (in_order (numbered_from 0 names))
  in_order_below names most = placed [] (numbered_from 0 names) tt (numbers 0 names (omega (arith, most)))

-- ---- objects that are seen through a view

module _ {A B : Type 0} (view : A → B) (lines : Name × B → List ℕ) (own : Name × A → List ℕ)
    (same : (name : Name) (a : A) → own (name, a) ≡ lines (name, view a)) where
  at_number : (objects : List A) (i : ℕ) (d : A) (name : Name) → i < length objects
      → lines (name, get_or (map view objects) i (view d)) ≡ lines_if_there own name (slice_get objects i)
  at_number [] i d name less = absurd (omega (arith, less))
  at_number (x ∷ objects) zero d name less = sym (same name x)
  at_number (x ∷ objects) (suc i) d name less = at_number objects i d name (omega (arith, less))

  each_at : (objects : List A) (d : A) (order : List (Name × ℕ)) → AllByRecursion (IsBelow (length objects)) order
      → flat_map lines (map (beside (λ i. get_or (map view objects) i (view d))) order) ≡ flat_map (lines_at own objects) order
  each_at objects d [] all = refl
  each_at objects d (e ∷ order) all =
      (λ i. (at_number objects e.1 d e.0 all.0) i ++ (each_at objects d order all.1) i)

  pub by_number : (names : List Name) (objects : List A) → length names ≡ length objects
      → flat_map lines (in_order (zip names (map view objects))) ≡ lines_in_order own names objects
  by_number [] objects many = refl
  by_number (name ∷ names) [] many = absurd (omega (arith, many))
  by_number (name ∷ names) (a ∷ objects) many =
      ap (flat_map lines) (found_by_number (name ∷ names) (map view (a ∷ objects)) (view a) (many ∙ sym (length-map (a ∷ objects) view)))
      ∙ each_at (a ∷ objects) a (in_order (numbered_from 0 (name ∷ names)))
      (in_order_below (length (a ∷ objects)) (name ∷ names) (omega (arith, many)))

pub held_seen : (names : Naming) (u : ℕ) (name : Name) (h : Held) → held_lines u (name, h) ≡ variable_lines u (name, value_of names h)
held_seen names u name (held.Number v) = refl
held_seen names u name _ = refl

-- what was found under the name at a place
pub found_named : {A : Type 0} (lines : Name × A → List ℕ) (objects stood : List A) (names : List Numbered) (k : ℕ) (n : Numbered)
    (found : Option A) → k < length names → found ≡ slice_get stood (get_or names k n).number → stood ≡ objects
    → lines_if_there lines (get_or names k n).name.now found ≡ lines_at lines objects (entry_at names k)
found_named lines objects stood names k n found less is same =
    ap (lines_if_there lines (get_or names k n).name.now) (is ∙ ap (λ xs. slice_get xs (get_or names k n).number) same)
    ∙ ap (lines_at lines objects) (sym (get_or-map entry_of names k n ([], 0) less))

-- ---- the elements of a table

module _ (hosts : List Host) (names : Naming) (u : ℕ) (name : Name) where
  one : (at : ℕ) (e : Option Entry)
      → element_lines hosts u name (at, option_map (element_of names) e) ≡ entry_lines hosts names u name at e
  one at None = refl
  one at (Some e) = refl

  elements_from : (k : ℕ) (elements rest : List (Option Entry)) → ((j : ℕ) → at_index elements (k + j) ≡ at_index rest j)
      → flat_map (element_lines hosts u name)
      (zip (range_with_len k (length (map (option_map (element_of names)) rest))) (map (option_map (element_of names)) rest))
      ≡ flat_map (lines_at_place hosts names u name elements) (range_with_len k (length rest))
  elements_from k elements [] same = refl
  elements_from k elements (e ∷ rest) same =
      let here : k ≡ k + 0 = omega arith in
      let next : (j : ℕ) → k + 1 + j ≡ k + suc j = λ j. omega arith in
      let others = elements_from (k + 1) elements rest (λ j. ap (at_index elements) (next j) ∙ same (suc j)) in
      (λ i. (one k e ∙ ap (entry_lines hosts names u name k) (sym (same 0) ∙ ap (at_index elements) (sym here))) i ++ others i)

  pub table_by_place : (table : TableCell)
      → length_and_elements hosts names u name table.elements.items ≡ table_cell_lines hosts names u (name, table)
  table_by_place table =
      let elements : List (Option Entry) = table.elements.items in
      let none : (j : ℕ) → 0 + j ≡ j = λ j. omega arith in
      let each = sym (elements_from 0 elements elements (λ j. ap (at_index elements) (none j))) in
      (λ i. length_line u name ((sym (length-map elements (option_map (element_of names)))) i) ++ each i)
