-- The modules whose tables, memories and globals an init function reaches by their index (WebAssembly Core
-- 1.0, 2.5.1): its own, or earlier ones.
use Rattle.std.specs.Prelude.{◌≡◌, ℕ, List, Option, ◌+◌, ◌<◌, ◌≤◌, length, slice_get, Some, None}
use Rattle.w2c_base.specs.declared.value.ValType.{ValType}
use Rattle.wasm_tree.specs.IndexSpaces.{imported_globals, global_imports, memory_imports, table_imports}
use Rattle.wasm_tree.specs.declared.entries.GlobalEntry.{GlobalEntry}
use Rattle.wasm_tree.specs.declared.entries.Import.{Import}
use Rattle.wasm_tree.specs.declared.tree.Module.{Module}
use Rattle.wasm_meaning.specs.LinkedSet.{GlobalAddress, LinkedSet, global_at, memory_at, module_at, table_at}

-- of a kind that a module has once at most: what its first index stands for, the imports of the kind, and how many a module makes
pub record ObjectOwner (s : LinkedSet) (u : ℕ) (found : Option ℕ) (imports : List Import) (count : Module → ℕ) : Type 0 where
  pub owner : ℕ
  pub owner_is : found ≡ Some owner
  pub early : owner ≤ u
  pub owner_tree : Module
  pub owner_tree_is : module_at s owner ≡ Some owner_tree
  pub some : 0 < count owner_tree
  pub own : slice_get imports 0 ≡ None → owner ≡ u

abbrev pub TableOwner : LinkedSet → ℕ → Module → Type 0
TableOwner s u tree = ObjectOwner s u (table_at s u 0) (table_imports tree) (λ m. length m.tables)

abbrev pub MemoryOwner : LinkedSet → ℕ → Module → Type 0
MemoryOwner s u tree = ObjectOwner s u (memory_at s u 0) (memory_imports tree) (λ m. length m.memories)

pub record GlobalOwner (s : LinkedSet) (u : ℕ) (tree : Module) (index : ℕ) (t : ValType) : Type 0 where
  pub global : GlobalAddress
  pub global_is : global_at s u index ≡ Some global
  pub early : global.owner ≤ u
  pub owner_tree : Module
  pub owner_tree_is : module_at s global.owner ≡ Some owner_tree
  pub entry : GlobalEntry
  pub entry_is : slice_get owner_tree.globals global.number ≡ Some entry
  pub typed : entry.ty ≡ t
  pub own : slice_get (global_imports tree) index ≡ None → (global.owner ≡ u) × (index ≡ imported_globals tree + global.number)
