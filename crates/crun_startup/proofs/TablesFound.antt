-- The tables of units find what their names stand for.
use Rattle.crun_startup.proofs.Common.{◌≡◌, ℕ, true, List, [], map, get_or, slice_get, Some, None, Option, option_map, filter_map, sym}
use Rattle.crun_startup.proofs.Common.{refl, ap, ◌∙◌, slice_get-map, AllByRecursion, option_or, if_found, named, well_formed, Name, unit_of}
use Rattle.crun_startup.proofs.Common.{NamedItem, none_clash, Definition, Program, array_bytes, array_named, defined, definition_at}
use Rattle.crun_startup.proofs.Common.{external_func, func_named, UnitFunc, clash_none, AllChecked, IsProgramOf, HostSymbol, Naming}
use Rattle.crun_startup.proofs.Common.{func_of, item_name, FuncId, defined_is, definition_there, function_in, definition_in}
use Rattle.crun_startup.proofs.Common.{AreObjectTables, HaveUnitTables, IsLinked, items_at, func_at, item_bytes, symbol_in, LinkedUnit}
use Rattle.crun_startup.proofs.Common.{Symbols, HaveCounts, entries, function_name, naming_of, unit_names, AreTables, AreUnits}
use Rattle.c_tree.specs.Tree as tree
use Rattle.c_objects.specs.declared.held.FuncId.TheVariants as func
use Rattle.c_thread.specs.declared.scope.ObjectTables.{ObjectTables}
use Rattle.crun_startup.proofs.Arrays.{arrays_behind}
use Rattle.crun_startup.proofs.Checked.{function_named, own_definition}
use Rattle.crun_startup.proofs.SymbolsFound.{symbol_found}

-- what a unit's definition of a name, or else the symbol, stands for
own_or_symbol : (names : Naming) (p : Program) (u : ℕ) (items : List tree.Item) (q : Name) (own : Option ℕ) (far : Option FuncId)
    → ((i : ℕ) → own ≡ Some i → item_name names u i ≡ q) → defined items q ≡ if_found own (λ i. definition_in items i)
    → ((i : ℕ) → own ≡ Some i → (d : Definition) × (definition_in items i ≡ Some d))
    → option_map (func_of names) far ≡ external_func p q
    → option_or (option_map (λ (d : Definition). UnitFunc u q) (defined items q)) (external_func p q)
    ≡ option_map (func_of names) (option_or (option_map (func.Unit u) own) far)
own_or_symbol names p u items q None far named is there e =
    ap (λ o. option_or (option_map (λ (d : Definition). UnitFunc u q) o) (external_func p q)) is ∙ sym e
own_or_symbol names p u items q (Some i) far named is there e =
    let d = there i refl in
    ap (λ o. option_or (option_map (λ (d : Definition). UnitFunc u q) o) (external_func p q)) (is ∙ d.1)
    ∙ ap (λ n. Some (UnitFunc u n)) (sym (named i refl))

-- the names of a unit, and of its items
pub names_at : (p : Program) (u : ℕ) (items : List tree.Item) → slice_get p.units u ≡ Some items
    → slice_get (naming_of p.units) u ≡ Some (unit_names items)
names_at p u items at = slice_get-map unit_names p.units u ∙ ap (option_map unit_names) at

pub item_named : (p : Program) (u i : ℕ) (items : List tree.Item) → slice_get p.units u ≡ Some items
    → item_name (naming_of p.units) u i ≡ get_or (map function_name items) i []
item_named p u i items at = ap (λ o. elim o [ None ↦ [] | Some n ↦ get_or n.items i [] ]) (names_at p u items at)

-- a unit of the program is checked
pub checked_at : (p : Program) (units : List (List tree.Item)) (hosts : List HostSymbol) → IsProgramOf p units hosts → AllChecked units
    → (u : ℕ) (items : List tree.Item) → slice_get p.units u ≡ Some items → (none_clash items ≡ true) × AllByRecursion NamedItem items
checked_at p units hosts is checked u items at =
    let one = checked u items (ap (λ us. slice_get us u) (sym is.units_are) ∙ at) in
    (clash_none items one.1, (well_formed items one.0).named)

module _ (p : Program) (units : List (List tree.Item)) (hosts : List HostSymbol) (counts : List ℕ) (is : IsProgramOf p units hosts)
    (have : HaveCounts p.hosts counts) (checked : AllChecked units) (symbols : Symbols)
    (found : (q : Name) → symbol_in symbols q ≡ named q (entries units hosts counts)) where
  abbrev names : Naming
  names = naming_of p.units

  -- the names of functions have the definitions of their items
  pub definitions_are : (u i : ℕ) → definition_at p u (item_name names u i) ≡ definition_in (items_at p u) i
  definitions_are u i = at (slice_get p.units u) refl
    where
      at : (o : Option (List tree.Item)) → slice_get p.units u ≡ o
          → definition_at p u (item_name names u i) ≡ definition_in (items_at p u) i
      at None e =
          ap (λ o. if_found o (λ items. defined items (item_name names u i))) e
          ∙ sym (ap (λ o. definition_in (elim o [ None ↦ [] | Some items ↦ items ]) i) e)
      at (Some items) e =
          let one = checked_at p units hosts is checked u items e in
          ap (λ o. if_found o (λ items. defined items (item_name names u i))) e
          ∙ ap (defined items) (item_named p u i items e)
          ∙ own_definition items one.0 one.1 i
          ∙ sym (ap (λ o. definition_in (elim o [ None ↦ [] | Some items ↦ items ]) i) e)

  module _ (u : ℕ) (items : List tree.Item) (at : slice_get p.units u ≡ Some items) (t : ObjectTables)
      (are : AreTables symbols u items t) where
    functions_found : (q : Name) → func_named p u q ≡ option_map (func_of names) (func_at t q)
    functions_found q =
        ap (λ o. if_found o (λ items. option_or (option_map (λ (d : Definition). UnitFunc u q) (defined items q)) (external_func p q))) at
        ∙ own_or_symbol names p u items q (function_in q items) (symbol_in symbols q)
        (λ i e. item_named p u i items at ∙ function_named q items i e) (defined_is q items) (definition_there q items)
        (ap (option_map (func_of names)) (found q) ∙ symbol_found p units hosts counts is have q)
        ∙ ap (λ o. option_map (func_of names) (option_or (option_map (func.Unit u) o) (symbol_in symbols q))) (sym (are.functions q))
        ∙ ap (λ v. option_map (func_of names) (option_or (option_map (func.Unit v) (named q t.functions)) (symbol_in symbols q)))
        (sym are.unit)
        ∙ ap (λ s. option_map (func_of names) (option_or (option_map (func.Unit t.unit) (named q t.functions)) (symbol_in s q)))
        (sym are.symbols_are)

    arrays_found : (q : Name) → array_named p u q
        ≡ if_found (named q t.arrays) (λ i. if_found (slice_get (items_at p u) i) item_bytes)
    arrays_found q =
        ap (λ o. if_found o (λ items. slice_get (filter_map (array_bytes q) items) 0)) at
        ∙ arrays_behind q [] items
        ∙ ap (λ o. if_found o (λ i. if_found (slice_get items i) item_bytes)) (sym (are.arrays q))
        ∙ sym (ap (λ o. if_found (named q t.arrays)
        (λ i. if_found (slice_get (elim o [ None ↦ [] | Some items ↦ items ]) i) item_bytes)) at)

    pub tables_found : AreObjectTables names p u t
    tables_found = record {
      unit = unit_names items;
      unit_is = names_at p u items at;
      vars = are.vars;
      memories = are.memories;
      tables = are.tables;
      arrays = arrays_found;
      functions = functions_found;
    }

  pub linked : (made : List LinkedUnit) → AreUnits symbols units made → IsLinked names p made
  linked made are = record {
    units_are = are.items ∙ sym is.units_are;
    objects = λ u l at. tables_found u (unit_of l.items.value) (unit_at u l at) l.objects (are.each u l at).objects;
    definitions = definitions_are;
  }
    where
      unit_at : (u : ℕ) (l : LinkedUnit) → slice_get made u ≡ Some l → slice_get p.units u ≡ Some (unit_of l.items.value)
      unit_at u l at =
          ap (λ us. slice_get us u) (is.units_are ∙ sym are.items)
          ∙ slice_get-map (λ (l : LinkedUnit). unit_of l.items.value) made u
          ∙ ap (option_map (λ (l : LinkedUnit). unit_of l.items.value)) at

pub unit_tables : (symbols : Symbols) (units : List (List tree.Item)) (made : List LinkedUnit) → AreUnits symbols units made
    → HaveUnitTables made
unit_tables symbols units made are u l at = (are.each u l at).functions
