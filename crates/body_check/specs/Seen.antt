-- What the checker of a body has before it: the index spaces of its module, its locals and its result, seen as a context.
use Rattle.std.specs.Prelude.{◌≡◌, ℕ, List, [], ◌++◌, map, length, slice_get, Option, option_map}
use Rattle.w2c_base.specs.declared.value.ValType.{ValType}
use Rattle.w2c_base.specs.declared.signature.FuncType.{FuncType}
use Rattle.wasm_tree.specs.declared.tree.Module.{Module}
use Rattle.wasm_tree.specs.declared.entries.BodyEntry.{BodyEntry}
use Rattle.wasm_tree.specs.declared.entries.Import.{Import}
use Rattle.wasm_tree.specs.IndexSpaces.{func_of_import, table_of_import, memory_of_import, global_of_import, func_space, table_space}
use Rattle.wasm_tree.specs.IndexSpaces.{memory_space, imported_global_space, global_space, declared_locals}
use Rattle.wasm_typing.specs.Context.{Context}
use Rattle.body_check.specs.declared.context.Spaces.{Spaces}

-- the type with an index
abbrev pub type_seen : Spaces → ℕ → Option FuncType
type_seen s index = option_map (λ t. t.ty) (slice_get s.types.now index)

abbrev pub context_seen : Spaces → List ValType → Option ValType → Context
context_seen s locals result = record {
  types = map (λ t. t.ty) s.types.now;
  funcs = map (type_seen s) s.funcs.items;
  tables = s.tables.items;
  memories = s.memories.items;
  globals = s.globals.items;
  locals = locals;
  result = result;
}

-- the context of a body of a function of this type
abbrev pub typed_context_seen : Spaces → BodyEntry → FuncType → Context
typed_context_seen s body ty = context_seen s (ty.params ++ declared_locals body.runs) ty.result

-- the index spaces are those of a module
pub record AreSpacesOf (s : Spaces) (m : Module) : Type 0 where
  pub types : s.types.now ≡ m.types
  pub funcs : s.funcs.items ≡ func_space m
  pub tables : s.tables.items ≡ table_space m
  pub memories : s.memories.items ≡ memory_space m
  pub globals : s.globals.items ≡ global_space m
  pub imported : s.imported_globals ≡ length (imported_global_space m)

-- nothing of a module stands in the index spaces, but its types
pub record AreEmptyOf (s : Spaces) (m : Module) : Type 0 where
  pub types : s.types.now ≡ m.types
  pub funcs : s.funcs.items ≡ []
  pub tables : s.tables.items ≡ []
  pub memories : s.memories.items ≡ []
  pub globals : s.globals.items ≡ []

-- what an import brings comes at the end
pub record HasOneMore (old new : Spaces) (i : Import) : Type 0 where
  pub types : new.types.now ≡ old.types.now
  pub funcs : new.funcs.items ≡ old.funcs.items ++ func_of_import i
  pub tables : new.tables.items ≡ old.tables.items ++ table_of_import i
  pub memories : new.memories.items ≡ old.memories.items ++ memory_of_import i
  pub globals : new.globals.items ≡ old.globals.items ++ global_of_import i
