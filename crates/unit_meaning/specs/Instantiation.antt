-- That the units of a linked set are instantiated as its modules are (WebAssembly Core 1.0, 4.5.4).
use Rattle.std.specs.Prelude.{◌≡◌, ℕ, List, [], map, slice_get, Some}
use Rattle.w2c_base.specs.Run.{Trail}
use Rattle.w2c_mangle.specs.Symbols.{init_symbol_of}
use Rattle.wasm_tree.specs.NamedModule.{NamedModule}
use Rattle.wasm_meaning.specs.LinkedSet.{LinkedSet}
use Rattle.wasm_meaning.specs.Store as store
use Rattle.wasm_meaning.specs.Run.{tasks_of}
use Rattle.c_meaning.specs.State.{Name, Vars, Objects, Machine, Frame, UnitFunc}
use Rattle.c_meaning.specs.Machine.{objects_of}
use Rattle.c_meaning.specs.Run.{Pending}
use Rattle.alike.specs.Passing.{called}
use Rattle.alike.specs.CallsFollow.{Together}
use Rattle.unit_definition.specs.Items.{items}
use Rattle.unit_meaning.specs.Sets.{IsAcceptedSet, program_of}
use Rattle.init_meaning.specs.Tasks.{do_tasks}
use Rattle.init_meaning.specs.Zeros.{zeroed}
use Rattle.init_meaning.specs.InitFollows.{InitFollows}

-- what stays of a unit's objects while functions run: the names of its variables with their types, and the
-- names of its memories and tables
abbrev pub object_types : Objects → Vars × List Name × List Name
object_types o = (zeroed o.vars, map (λ v. v.0) o.memories, map (λ v. v.0) o.tables)

-- nothing of the module with number u is made, and its unit has its objects, of their types, whatever they hold
pub record IsUntouched (u : ℕ) (m : NamedModule) (machine : Machine) (made : store.Store) : Type 0 where
  pub objects : slice_get made u ≡ Some store.no_objects
  pub now : Objects
  pub unit : slice_get machine.units u ≡ Some now
  pub same_types : object_types now ≡ object_types (objects_of (items m))

abbrev pub UnitsAreInstantiatedAlike : Type 0
UnitsAreInstantiatedAlike =
    (s : LinkedSet) → IsAcceptedSet s → (u : ℕ) (m : NamedModule) → slice_get s.modules u ≡ Some m
    → (n : ℕ) (made : store.Store) (trail : Trail) (machine : Machine) (pending : Pending) (below : List Frame)
    → Together (program_of s) s u 0 machine made trail → IsUntouched u m machine made
    → InitFollows (program_of s) s u pending below
    (called (program_of s) pending (UnitFunc u (init_symbol_of m.name)) machine [] below)
    n
    (do_tasks s u (tasks_of m.tree) n made trail)
