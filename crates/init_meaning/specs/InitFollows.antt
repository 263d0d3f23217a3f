-- That an init function follows its module's instantiation, task by task (WebAssembly Core 1.0, 4.5.4).
use Rattle.std.specs.Prelude.{◌≡◌, ℕ, suc, ◌<◌, false, List, [], length, IsSome, slice_get, Some, None, filter}
use Rattle.w2c_base.specs.declared.value.ValType.{ValType}
use Rattle.w2c_base.specs.Run.{Trail}
use Rattle.w2c_mangle.specs.Symbols.{init_symbol_of}
use Rattle.wasm_tree.specs.IndexSpaces.{func_space, global_space, imported_global_space, memory_space, table_space}
use Rattle.wasm_tree.specs.declared.entries.SegmentEntry.{SegmentEntry}
use Rattle.wasm_tree.specs.NamedModule.{NamedModule}
use Rattle.wasm_meaning.specs.LinkedSet.{LinkedSet}
use Rattle.wasm_meaning.specs.Run.{tasks_of}
use Rattle.wasm_meaning.specs.Store as store
use Rattle.wasm_meaning.specs.Execution.{Called, Back, CallStops, call_within}
use Rattle.c_meaning.specs.Linking.{Program, array_named}
use Rattle.c_meaning.specs.Run.{Pending, Progress}
use Rattle.c_meaning.specs.State.{Objects, Machine, Frame, UnitFunc}
use Rattle.c_meaning.specs.Reaches.{Reaches}
use Rattle.alike.specs.CallsFollow.{CallsFollow, Together, Paid, StopsAlike}
use Rattle.alike.specs.Passing.{called, given}
use Rattle.alike.specs.Defines.{Defines}
use Rattle.c_init.specs.Init.{data_name, init_func, parts_of}
use Rattle.init_meaning.specs.Tasks.{do_tasks}
use Rattle.init_meaning.specs.Owners.{TableOwner, MemoryOwner, GlobalOwner}
use Rattle.init_meaning.specs.ReachedFuncs.{FuncIsReached}
use Rattle.c_init.specs.Instantiable.{IsInstantiable}
use Rattle.init_meaning.specs.Declared.{IsDeclared}
use Rattle.init_meaning.specs.Parts.{PartsAreDefined}
use Rattle.init_meaning.specs.Taken.{AreTaken, is_taken}

-- what is known of a module of the set and of its unit's functions
pub record IsKnown (p : Program) (s : LinkedSet) (u : ℕ) (m : NamedModule) : Type 0 where
  -- of the unit's items
  pub init : Defines p u (init_func m)
  pub parts : PartsAreDefined p u m.tree 0 (parts_of m.tree)
  pub array : (k : ℕ) (d : SegmentEntry) → slice_get m.tree.segments k ≡ Some d → 0 < length d.bytes
      → array_named p u (data_name k) ≡ Some d.bytes
  -- of indexes, and of names that stand for them
  pub table : IsSome (slice_get (table_space m.tree) 0) → TableOwner s u m.tree
  pub memory : IsSome (slice_get (memory_space m.tree) 0) → MemoryOwner s u m.tree
  pub global : (index : ℕ) (t : ValType) → slice_get (global_space m.tree) index ≡ Some (t, false) → GlobalOwner s u m.tree index t
  pub early_global : (index : ℕ) (t : ValType) → slice_get (imported_global_space m.tree) index ≡ Some (t, false)
      → (o : GlobalOwner s u m.tree index t) × (o.global.owner < u)
  pub function : (index : ℕ) → index < length (func_space m.tree) → FuncIsReached p s u m index
  pub taken : AreTaken p s u m 0 (filter is_taken m.tree.imports)

-- the init function has come back, and one module more is ready; the step that begins it pays for its
-- own statements and for the start call's
pub record IsInstantiated (p : Program) (s : LinkedSet) (u : ℕ) (pending : Pending) (below : List Frame) (from : Progress) (n left : ℕ)
    (made : store.Store) (trail : Trail) : Type 0 where
  pub machine : Machine
  pub together : Together p s (suc u) 0 machine made trail
  pub statements : ℕ
  pub way : Reaches p statements from (given p pending machine None below)
  pub paid : Paid 0 n left statements

abbrev pub InitFollows : Program → LinkedSet → ℕ → Pending → List Frame → Progress → ℕ → Called → Type 0
InitFollows p s u pending below from n (Back left value made trail) = IsInstantiated p s u pending below from n left made trail
InitFollows p s u pending below from n (CallStops why made trail) = StopsAlike p s pending 0 from n why made trail

-- nothing of the module with number u is made, and its unit declares what it needs
pub record IsUnmade (u : ℕ) (m : NamedModule) (machine : Machine) (made : store.Store) : Type 0 where
  pub nothing : slice_get made u ≡ Some store.no_objects
  pub now : Objects
  pub unit : slice_get machine.units u ≡ Some now
  pub declared : IsDeclared m.tree now

-- In any program, where the calls of functions are followed, so is an instantiation: the init function of a module whose unit
-- declares what it needs does the tasks in order, or stops as they do.
abbrev pub InitsFollow : Type 0
InitsFollow =
    (p : Program) (s : LinkedSet) (u : ℕ) (m : NamedModule) → slice_get s.modules u ≡ Some m → IsKnown p s u m → IsInstantiable m.tree
    → CallsFollow p s (suc u) 1024 (call_within s 1024)
    → (n : ℕ) (made : store.Store) (trail : Trail) (machine : Machine) (pending : Pending) (below : List Frame)
    → Together p s u 0 machine made trail → IsUnmade u m machine made
    → InitFollows p s u pending below (called p pending (UnitFunc u (init_symbol_of m.name)) machine [] below) n
    (do_tasks s u (tasks_of m.tree) n made trail)
