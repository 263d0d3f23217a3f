-- What a unit declares for the bodies of its module (C11, 6.2.1 scopes of identifiers).
use Rattle.std.specs.Prelude.{◌≡◌, ℕ, Bool, true, false, List, map, is_some, slice_get, Some, None}
use Rattle.std.specs.List.{list_any, AllByRecursion}
use Rattle.w2c_base.specs.Lookup.{at_index, named}
use Rattle.w2c_base.specs.declared.signature.FuncType.{FuncType}
use Rattle.w2c_base.specs.declared.value.ValType.{ValType}
use Rattle.wasm_tree.specs.IndexSpaces.{func_space, global_space, type_in, global_imports, memory_imports, table_imports}
use Rattle.wasm_tree.specs.declared.entries.BodyEntry.{BodyEntry}
use Rattle.wasm_tree.specs.NamedModule.{NamedModule}
use Rattle.wasm_typing.specs.Context.{context_of}
use Rattle.wasm_typing.specs.Typing.{HasMemory, HasTable}
use Rattle.c_tree.specs.Rules.{is_runtime_name}
use Rattle.c_tree.specs.Scope.{Name, name_of}
use Rattle.c_tree.specs.TypesInC.{c_type_of}
use Rattle.c_tree.specs.DefinedNames.{global_name, memory_name, table_name, pointer_name}
use Rattle.c_tree.specs.declared.tree.CType.TheVariants as type
use Rattle.c_tree.specs.Tree as tree
use Rattle.c_tree.specs.WellFormed.{IsName}
use Rattle.c_helpers.specs.Helpers.{helper_of}
use Rattle.c_helpers.specs.declared.operation.Helper.{Helper}
use Rattle.c_helpers.specs.Translated.{any_in}
use Rattle.c_helpers.specs.Needed.{calls_helper}
use Rattle.c_symbols.specs.Symbols.{c_func_type, pointer_type}
use Rattle.c_symbols.specs.Objects.{callee}
use Rattle.c_prelude.specs.Functions.{helper_type}
use Rattle.c_tree.specs.DeclaredNames.{vars_in, funcs_in}

-- the names that the module's bodies use stand for what they are used as: globals, the memory and the table, an own one by its name and
-- an imported one by its pointer; functions that may be called; helpers that some body calls. No name of the runtime is declared again
pub record FileKnows (m : NamedModule) (declared : List tree.Item) : Type 0 where
  pub own_globals : (k : ℕ) (g : ValType × Bool) → slice_get (global_space m.tree) k ≡ Some g
      → is_some (slice_get (global_imports m.tree) k) ≡ false
      → named (global_name k) (vars_in declared) ≡ Some (c_type_of g.0)
  pub imported_globals : (k : ℕ) (g : ValType × Bool) → slice_get (global_space m.tree) k ≡ Some g
      → is_some (slice_get (global_imports m.tree) k) ≡ true
      → named (pointer_name (global_name k)) (vars_in declared) ≡ Some (pointer_type g.0)
  pub own_memory : (ty : FuncType) (body : BodyEntry) → HasMemory (context_of m.tree ty body)
      → is_some (slice_get (memory_imports m.tree) 0) ≡ false
      → named memory_name (vars_in declared) ≡ Some type.Mem
  pub imported_memory : is_some (slice_get (memory_imports m.tree) 0) ≡ true
      → named (pointer_name memory_name) (vars_in declared) ≡ Some type.PtrMem
  pub own_table : (ty : FuncType) (body : BodyEntry) → HasTable (context_of m.tree ty body)
      → is_some (slice_get (table_imports m.tree) 0) ≡ false
      → named table_name (vars_in declared) ≡ Some type.Tab
  pub imported_table : is_some (slice_get (table_imports m.tree) 0) ≡ true
      → named (pointer_name table_name) (vars_in declared) ≡ Some type.PtrTab
  pub callees : (k : ℕ) (ty : FuncType) (name : Name) → at_index (map (type_in m.tree) (func_space m.tree)) k ≡ Some ty
      → callee m k ≡ Some name
      → named name (funcs_in declared) ≡ Some (c_func_type ty)
  pub helpers : (which : Helper) → list_any (λ (b : BodyEntry). any_in (calls_helper which) b.code) m.tree.bodies ≡ true
      → named (helper_of which).name (funcs_in declared) ≡ Some (helper_type which)
  pub no_runtime : (name : Name) → is_runtime_name name ≡ true
      → (named name (funcs_in declared) ≡ None) × (named name (vars_in declared) ≡ None)

-- each item has a name that texts can spell
abbrev pub NamedItems : List tree.Item → Type 0
NamedItems items = AllByRecursion (λ i. IsName (name_of i)) items
