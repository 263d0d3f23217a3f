-- The symbols of a module's imports by their kinds.
use Rattle.std.specs.Prelude.{◌≡◌, Bool, List, [], ◌∷◌, ◌++◌, map, filter, Option}
use Rattle.wasm_tree.specs.declared.entries.Import.{Import}
use Rattle.wasm_tree.specs.IndexSpaces.{is_func_import, is_table_import, is_memory_import, is_global_import}
use Rattle.wasm_tree.specs.NamedModule.{NamedModule}
use Rattle.c_tree.specs.Scope.{Name}
use Rattle.c_symbols.specs.Reached.{usable_symbol}
use Rattle.c_symbols.specs.Symbols.{func_imports, table_imports, memory_imports, global_imports}
use Rattle.c_symbols.specs.declared.reached.Reached.{Reached}

pub record AreReached (r : Reached) (m : NamedModule) : Type 0 where
  pub funcs : r.funcs.items ≡ map (usable_symbol m) (func_imports m.tree)
  pub tables : r.tables.items ≡ map (usable_symbol m) (table_imports m.tree)
  pub memories : r.memories.items ≡ map (usable_symbol m) (memory_imports m.tree)
  pub globals : r.globals.items ≡ map (usable_symbol m) (global_imports m.tree)

-- the name, where the import is of this kind
abbrev pub if_kind : {A : Type 0} → (Import → Bool) → Import → A → List A
if_kind of_kind i name = map (λ j. name) (filter of_kind (i ∷ []))

pub record HasOneMore (before after : Reached) (i : Import) (name : Option Name) : Type 0 where
  pub funcs : after.funcs.items ≡ before.funcs.items ++ if_kind is_func_import i name
  pub tables : after.tables.items ≡ before.tables.items ++ if_kind is_table_import i name
  pub memories : after.memories.items ≡ before.memories.items ++ if_kind is_memory_import i name
  pub globals : after.globals.items ≡ before.globals.items ++ if_kind is_global_import i name
