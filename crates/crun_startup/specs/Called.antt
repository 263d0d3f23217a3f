-- Functions that units define for all units, as calls from outside find them by their symbols (C11, 6.2.2
-- linkages of identifiers).
use Rattle.std.specs.Prelude.{◌≡◌, ℕ, true, Option, Some, None, option_map}
use Rattle.c_tree.specs.Scope.{Name, func_type_of}
use Rattle.c_meaning.specs.State.{UnitFunc}
use Rattle.c_meaning.specs.Linking.{Definition, Program, defined_for_all, external_func, func_type, is_external}
use Rattle.c_machine.specs.Threads.{definition_in}
use Rattle.c_objects.specs.declared.held.FuncId.{FuncId}
use Rattle.c_objects.specs.declared.held.FuncId.TheVariants as func
use Rattle.c_objects.specs.Views.{Naming, func_of}
use Rattle.c_thread.specs.declared.scope.Symbols.{Symbols}
use Rattle.c_thread.specs.Linked.{items_at}
use Rattle.c_thread.specs.Sights.{symbol_in}
use Rattle.crun_startup.specs.Inits.{UnitItem}

-- where a unit defines the function, none for one of a host
abbrev pub unit_item : FuncId → Option UnitItem
unit_item (func.Unit u i) = Some (u, i)
unit_item (func.Host h f) = None

-- the first definition of a symbol that a unit has for all units stands there, and gives the symbol its type
pub record IsSeenAt (p : Program) (symbol : Name) (f : UnitItem) : Type 0 where
  pub definition : Definition
  pub here : definition_in (items_at p f.0) f.1 ≡ Some definition
  pub seen : defined_for_all (items_at p f.0) symbol ≡ Some definition
  pub external : is_external definition ≡ true
  pub named : definition.func.name ≡ symbol
  pub typed : func_type p (UnitFunc f.0 symbol) ≡ Some (func_type_of definition.func)

-- a table finds the functions of a program by their symbols
pub record AreSymbols (names : Naming) (p : Program) (s : Symbols) : Type 0 where
  pub found : (q : Name) → option_map (func_of names) (symbol_in s q) ≡ external_func p q
  pub defined : (q : Name) (u i : ℕ) → symbol_in s q ≡ Some (func.Unit u i) → IsSeenAt p q (u, i)
