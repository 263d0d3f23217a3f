-- The index spaces of a module (WebAssembly Core 1.0, 2.5.1): functions, tables, memories and globals by their
-- index, imports first, with their types.
use Rattle.std.specs.Prelude.{ℕ, ◌+◌, ◌-◌, ◌<◌, ◌≤◌, nat_lt, if◌then◌else◌, Bool, true, false, List, [], ◌∷◌, ◌++◌, length, map, filter}
use Rattle.std.specs.Prelude.{replicate, flat_map, slice_get, Option, None, option_map}
use Rattle.w2c_base.specs.declared.value.ValType.{ValType}
use Rattle.w2c_base.specs.declared.signature.FuncType.{FuncType}
use Rattle.w2c_base.specs.Lookup.{if_found}
use Rattle.wasm_tree.specs.declared.tree.Module.{Module}
use Rattle.wasm_tree.specs.declared.entries.Import.{Import}
use Rattle.wasm_tree.specs.declared.entries.Limits.{Limits}
use Rattle.wasm_tree.specs.declared.entries.Run.{Run}
use Rattle.wasm_tree.specs.declared.entries.ImportKind.TheVariants.{Func, Table, Memory, Global}

-- what an import brings into each index space: the index of a function's type, the limits of a table or a
-- memory, a global's type and whether it is mutable
abbrev pub func_of_import : Import → List ℕ
func_of_import i = elim i.kind [ Func type_index ↦ type_index ∷ [] | _ ↦ [] ]

abbrev pub table_of_import : Import → List Limits
table_of_import i = elim i.kind [ Table limits ↦ limits ∷ [] | _ ↦ [] ]

abbrev pub memory_of_import : Import → List Limits
memory_of_import i = elim i.kind [ Memory limits ↦ limits ∷ [] | _ ↦ [] ]

abbrev pub global_of_import : Import → List (ValType × Bool)
global_of_import i = elim i.kind [ Global ty mutable ↦ (ty, mutable) ∷ [] | _ ↦ [] ]

-- what kind of import it is
abbrev pub is_func_import : Import → Bool
is_func_import i = elim i.kind [ Func type_index ↦ true | _ ↦ false ]

abbrev pub is_table_import : Import → Bool
is_table_import i = elim i.kind [ Table limits ↦ true | _ ↦ false ]

abbrev pub is_memory_import : Import → Bool
is_memory_import i = elim i.kind [ Memory limits ↦ true | _ ↦ false ]

abbrev pub is_global_import : Import → Bool
is_global_import i = elim i.kind [ Global ty mutable ↦ true | _ ↦ false ]

-- the imports of each kind, in their order, which is that of their indexes
abbrev pub func_imports : Module → List Import
func_imports m = filter is_func_import m.imports

abbrev pub table_imports : Module → List Import
table_imports m = filter is_table_import m.imports

abbrev pub memory_imports : Module → List Import
memory_imports m = filter is_memory_import m.imports

abbrev pub global_imports : Module → List Import
global_imports m = filter is_global_import m.imports

-- how many functions and globals a module imports
abbrev pub imported_funcs : Module → ℕ
imported_funcs m = length (filter is_func_import m.imports)

abbrev pub imported_globals : Module → ℕ
imported_globals m = length (filter is_global_import m.imports)

-- a function that the module with this tree defines, by its index
pub record IsDefined (tree : Module) (index : ℕ) : Type 0 where
  pub behind : imported_funcs tree ≤ index
  pub within : index < imported_funcs tree + length tree.funcs

-- of what stands beside the functions that a module defines, in their order, that of the function with
-- an index; nothing at the index of an import
abbrev pub at_defined : {A : Type 0} → Module → List A → ℕ → Option A
at_defined m items index = if nat_lt index (imported_funcs m) then None else slice_get items (index - imported_funcs m)

-- the type indexes of the functions, the limits of the tables and the memories, the types of the globals
abbrev pub func_space : Module → List ℕ
func_space m = flat_map func_of_import m.imports ++ map (λ f. f.type_index) m.funcs

abbrev pub table_space : Module → List Limits
table_space m = flat_map table_of_import m.imports ++ map (λ t. t.limits) m.tables

abbrev pub memory_space : Module → List Limits
memory_space m = flat_map memory_of_import m.imports ++ map (λ t. t.limits) m.memories

abbrev pub imported_global_space : Module → List (ValType × Bool)
imported_global_space m = flat_map global_of_import m.imports

abbrev pub global_space : Module → List (ValType × Bool)
global_space m = imported_global_space m ++ map (λ g. (g.ty, g.mutable)) m.globals

-- the type with an index; the type of the function with an index, and that of the global. None where the index,
-- or the index of the function's type, is out of range
abbrev pub type_in : Module → ℕ → Option FuncType
type_in m index = option_map (λ t. t.ty) (slice_get m.types index)

abbrev pub func_type_in : Module → ℕ → Option FuncType
func_type_in m index = if_found (slice_get (func_space m) index) (type_in m)

abbrev pub global_type_in : Module → ℕ → Option (ValType × Bool)
global_type_in m index = slice_get (global_space m) index

-- the types of the locals that runs declare, in order
abbrev pub declared_locals : List Run → List ValType
declared_locals runs = flat_map (λ r. replicate r.count r.ty) runs
