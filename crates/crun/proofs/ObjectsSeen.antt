-- Objects by name, as they stand by number.
use Rattle.crun.proofs.Common.{◌≡◌, ℕ, zero, suc, List, [], ◌∷◌, map, slice_get, Some, None, Option, option_map, zip, sym, refl, ap, ◌∙◌}
use Rattle.crun.proofs.Common.{slice_get-map, if_found, named, unit_of, Name, Objects, memory_of, table_of, objects_of, units_of, Naming}
use Rattle.crun.proofs.Common.{UnitNames, value_of, UnitObjects, Finds, number_in, LinkedUnit, HostModule, unit_names, IsStarted, naming_in}
use Rattle.crun.proofs.Common.{units_at, AreFound, memories_of, object_in, tables_of, vars_of, Engine}
use Rattle.c_machine.proofs.Variables.{named-zip}
use Rattle.c_tree.specs.Tree as tree
use Rattle.c_thread.specs.declared.scope.ObjectTables.{ObjectTables}

-- the objects of a unit are those of its names and of what stands there
pub units_found : (names : Naming) (ns : List UnitNames) (os : List UnitObjects) (u : ℕ)
    → slice_get (units_of names ns os) u ≡ if_found (slice_get ns u) (λ n. option_map (objects_of names n) (slice_get os u))
units_found names [] os u = refl
units_found names (n ∷ ns) [] zero = refl
units_found names (n ∷ ns) [] (suc u) = go (slice_get ns u)
  where
    go : (o : Option UnitNames) → None ≡ if_found o (λ n. option_map (objects_of names n) (slice_get [] (suc u)))
    go None = refl
    go (Some n) = refl
units_found names (n ∷ ns) (o ∷ os) zero = refl
units_found names (n ∷ ns) (o ∷ os) (suc u) = units_found names ns os u

-- what a name stands for is what stands at the name's number
module _ {A B : Type 0} (view : A → B) (table : List (Name × ℕ)) (names : List Name) (finds : Finds table (λ q. number_in q names))
    (xs : List A)
    (q : Name) where
  pub by_number : named q (zip names (map view xs)) ≡ option_map view (if_found (named q table) (λ i. slice_get xs i))
  by_number = named-zip q names (map view xs) ∙ go (number_in q names)
      ∙ ap (λ o. option_map view (if_found o (λ i. slice_get xs i))) (sym (finds q))
    where
      go : (o : Option ℕ) → if_found o (λ i. slice_get (map view xs) i) ≡ option_map view (if_found o (λ i. slice_get xs i))
      go None = refl
      go (Some i) = slice_get-map view xs i

module _ {H : Type 0} (m : HostModule H) (e : Engine H) (started : IsStarted m e) (u : ℕ) where
  abbrev names : Naming
  names = naming_in e

  abbrev os : List UnitObjects
  os = e.startup.store.units.items

  abbrev items_in : LinkedUnit → List tree.Item
  items_in l = unit_of l.items.value

  named_unit : slice_get names u ≡ option_map unit_names (option_map items_in (slice_get e.startup.units.items u))
  named_unit = slice_get-map unit_names (map unit_of e.linked.0) u
      ∙ ap (λ us. option_map unit_names (slice_get us u)) (sym started.units_are.units_are)
      ∙ ap (option_map unit_names) (slice_get-map items_in e.startup.units.items u)

  there : slice_get (units_at e) u ≡ if_found (slice_get names u) (λ n. option_map (objects_of names n) (slice_get os u))
  there = units_found names names os u

  pub no_unit : None ≡ slice_get e.startup.units.items u → slice_get (units_at e) u ≡ None
  no_unit none = there ∙ ap (λ o. if_found o (λ n. option_map (objects_of names n) (slice_get os u)))
      (named_unit ∙ ap (λ o. option_map unit_names (option_map items_in o)) (sym none))

  pub no_objects : None ≡ slice_get os u → slice_get (units_at e) u ≡ None
  no_objects none = there ∙ ap (λ o. if_found (slice_get names u) (λ n. option_map (objects_of names n) o)) (sym none)
      ∙ go (slice_get names u)
    where
      go : (o : Option UnitNames) → if_found o (λ n. option_map (objects_of names n) None) ≡ None
      go None = refl
      go (Some n) = refl

  pub are_found : (l : LinkedUnit) (o : UnitObjects) → Some l ≡ slice_get e.startup.units.items u → Some o ≡ slice_get os u
      → AreFound names (units_at e) u l.objects o
  are_found l o unit_at object_at =
      let t = started.units_are.objects u l (sym unit_at) in record {
        unit = t.unit;
        unit_is = there ∙ ap (λ n. if_found n (λ n. option_map (objects_of names n) (slice_get os u))) t.unit_is
            ∙ ap (option_map (objects_of names t.unit)) (sym object_at);
        vars = t.vars;
        memories = t.memories;
        tables = t.tables;
      }

-- an object of one kind, as it stands by number
module _ (names : Naming) (units : List Objects) (u : ℕ) (t : ObjectTables) (o : UnitObjects) (found : AreFound names units u t o)
    (q : Name) where
  pub var_found : object_in units u vars_of q ≡ option_map (value_of names) (if_found (named q t.vars) (λ i. slice_get o.vars.items i))
  var_found = ap (λ x. if_found x (λ o. named q (vars_of o))) found.unit_is
      ∙ by_number (value_of names) t.vars (found.unit).vars found.vars o.vars.items q

  pub memory_found : object_in units u memories_of q
      ≡ option_map memory_of (if_found (named q t.memories) (λ i. slice_get o.memories.items i))
  memory_found = ap (λ x. if_found x (λ o. named q (memories_of o))) found.unit_is
      ∙ by_number memory_of t.memories (found.unit).memories found.memories o.memories.items q

  pub table_found : object_in units u tables_of q
      ≡ option_map (table_of names) (if_found (named q t.tables) (λ i. slice_get o.tables.items i))
  table_found = ap (λ x. if_found x (λ o. named q (tables_of o))) found.unit_is
      ∙ by_number (table_of names) t.tables (found.unit).tables found.tables o.tables.items q
