-- The variables of a unit before its init function has made or set one, as far as its module needs them.
use Rattle.std.specs.Prelude.{◌≡◌, ℕ, ◌+◌, ◌<◌, length, slice_get, Some, None}
use Rattle.w2c_base.specs.Lookup.{named}
use Rattle.w2c_base.specs.Values.{value}
use Rattle.wasm_tree.specs.IndexSpaces.{imported_globals, memory_imports, table_imports}
use Rattle.wasm_tree.specs.declared.entries.GlobalEntry.{GlobalEntry}
use Rattle.wasm_tree.specs.declared.tree.Module.{Module}
use Rattle.c_tree.specs.DefinedNames.{global_name, memory_name, table_name, pointer_name}
use Rattle.c_meaning.specs.State as state
use Rattle.c_meaning.specs.Machine as machine
use Rattle.init_meaning.specs.Zeros.{held}

-- the variable of a pointer to an object, and that of the global with this number among those that the module defines,
-- hold values of their types
abbrev pub HoldsPointer : state.Name → state.Vars → Type 0
HoldsPointer object vars = held (pointer_name object) vars ≡ Some (state.Pointer None)

abbrev pub HoldsGlobal : Module → ℕ → GlobalEntry → state.Vars → Type 0
HoldsGlobal m k e vars = held (global_name (imported_globals m + k)) vars ≡ Some (state.Number (value e.ty 0))

-- the variables of a unit before its init function has made or set one, as far as its module needs them
pub record IsDeclared (m : Module) (x : state.Objects) : Type 0 where
  pub table : 0 < length m.tables → named table_name x.tables ≡ Some machine.no_table
  pub memory : 0 < length m.memories → named memory_name x.memories ≡ Some machine.no_memory
  pub globals : (k : ℕ) (e : GlobalEntry) → slice_get m.globals k ≡ Some e → HoldsGlobal m k e x.vars
  pub table_pointer : 0 < length (table_imports m) → HoldsPointer table_name x.vars
  pub memory_pointer : 0 < length (memory_imports m) → HoldsPointer memory_name x.vars
  pub global_pointers : (k : ℕ) → k < imported_globals m → HoldsPointer (global_name k) x.vars
