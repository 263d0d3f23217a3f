-- The tables and the first objects of linked units.
use Rattle.std.specs.Prelude.{◌≡◌, ℕ, List, [], ◌∷◌, map, slice_get, Some, ⊤}
use Rattle.c_tree.specs.Tree as tree
use Rattle.c_tree.specs.View.{unit_of}
use Rattle.c_machine.specs.Names.{Finds, entry_in, function_in, number_in}
use Rattle.c_machine.specs.Tables.{IsTables}
use Rattle.c_objects.specs.declared.store.UnitObjects.{UnitObjects}
use Rattle.c_thread.specs.declared.control.LinkedUnit.{LinkedUnit}
use Rattle.c_thread.specs.declared.scope.ObjectTables.{ObjectTables}
use Rattle.c_thread.specs.declared.scope.Symbols.{Symbols}
use Rattle.crun_startup.specs.declared.names.ObjectKind.TheVariants as kind
use Rattle.crun_startup.specs.Names.{array_name, names_in}
use Rattle.crun_startup.specs.Objects.{AreFirst}

-- the tables of the unit with this number and these items
pub record AreTables (symbols : Symbols) (u : ℕ) (items : List tree.Item) (t : ObjectTables) : Type 0 where
  pub unit : t.unit ≡ u
  pub vars : Finds t.vars (λ q. number_in q (names_in kind.Variable items))
  pub memories : Finds t.memories (λ q. number_in q (names_in kind.Memory items))
  pub tables : Finds t.tables (λ q. number_in q (names_in kind.Table items))
  pub arrays : Finds t.arrays (λ q. entry_in 0 q (map array_name items))
  pub functions : Finds t.functions (λ q. function_in q items)
  pub symbols_are : t.symbols.value ≡ symbols

pub record IsUnit (symbols : Symbols) (u : ℕ) (l : LinkedUnit) : Type 0 where
  pub functions : IsTables l.functions (unit_of l.items.value)
  pub objects : AreTables symbols u (unit_of l.items.value) l.objects

-- units of these items, with their tables
pub record AreUnits (symbols : Symbols) (units : List (List tree.Item)) (made : List LinkedUnit) : Type 0 where
  pub items : map (λ (l : LinkedUnit). unit_of l.items.value) made ≡ units
  pub each : (u : ℕ) (l : LinkedUnit) → slice_get made u ≡ Some l → IsUnit symbols u l

-- the first objects of each unit
abbrev pub AreAllFirst : List (List tree.Item) → List UnitObjects → Type 0
AreAllFirst [] [] = ⊤
AreAllFirst [] (o ∷ os) = ⊥
AreAllFirst (items ∷ units) [] = ⊥
AreAllFirst (items ∷ units) (o ∷ os) = AreFirst items o × AreAllFirst units os
