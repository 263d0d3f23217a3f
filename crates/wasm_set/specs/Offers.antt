-- What a module offers: its exports with their types (WebAssembly Core 1.0, 3.4.8), each type by the module's own index
-- spaces. And whether an offer is what an import asks for (4.5.4), limits left out.
use Rattle.std.specs.Prelude.{◌&&◌, ℕ, Bool, true, false, List, map, slice_get, Option, Some, None, option_map}
use Rattle.w2c_base.specs.declared.value.ValType.{ValType}
use Rattle.w2c_base.specs.declared.signature.FuncType.{FuncType}
use Rattle.w2c_base.specs.Lookup.{if_found, named}
use Rattle.w2c_base.specs.Values.{equal_type, equal_func_types}
use Rattle.wasm_tree.specs.declared.tree.Module.{Module}
use Rattle.wasm_tree.specs.declared.entries.Export.{Export}
use Rattle.wasm_tree.specs.declared.entries.ExportKind.TheVariants.{Func as ExportFunc, Table as ExportTable, Memory as ExportMemory}
use Rattle.wasm_tree.specs.declared.entries.ExportKind.TheVariants.{Global as ExportGlobal}
use Rattle.wasm_tree.specs.declared.entries.ImportKind.{ImportKind}
use Rattle.wasm_tree.specs.declared.entries.ImportKind.TheVariants.{Func as ImportFunc, Table as ImportTable, Memory as ImportMemory}
use Rattle.wasm_tree.specs.declared.entries.ImportKind.TheVariants.{Global as ImportGlobal}
use Rattle.wasm_tree.specs.IndexSpaces.{func_space, table_space, memory_space, global_space, type_in}
use Rattle.wasm_set.specs.declared.offer.Offer.{Offer}
use Rattle.wasm_set.specs.declared.offer.Offer.TheVariants.{Func, Table, Memory, Global}

-- what an export is of; nothing where its index is out of range
abbrev pub offer_of : Module → Export → Option Offer
offer_of m e = elim e.kind [
  | ExportFunc ↦ option_map Func (slice_get (func_space m) e.index)
  | ExportTable ↦ option_map (λ limits. Table) (slice_get (table_space m) e.index)
  | ExportMemory ↦ option_map (λ limits. Memory) (slice_get (memory_space m) e.index)
  | ExportGlobal ↦ option_map (λ g. Global g.0 g.1) (slice_get (global_space m) e.index)
]

-- each export's name with what it is of
abbrev pub offers : Module → List (List ℕ × Option Offer)
offers m = map (λ e. (e.name, offer_of m e)) m.exports

-- what a module offers under a name
abbrev pub offered : Module → List ℕ → Option Offer
offered m name = if_found (named name (offers m)) (λ offer. offer)

-- two types that are there, and equal
abbrev pub are_one_type : Option FuncType → Option FuncType → Bool
are_one_type (Some f) (Some g) = equal_func_types f g
are_one_type (Some f) None = false
are_one_type None (Some g) = false
are_one_type None None = false

abbrev pub equal_bool : Bool → Bool → Bool
equal_bool true true = true
equal_bool false false = true
equal_bool true false = false
equal_bool false true = false

-- an offer of a module that is a function of a wanted type, a table, a memory, a global of a wanted type
abbrev pub is_func : Module → Offer → Option FuncType → Bool
is_func from (Func u) wanted = are_one_type (type_in from u) wanted
is_func from Table wanted = false
is_func from Memory wanted = false
is_func from (Global ty mutable) wanted = false

abbrev pub is_table : Offer → Bool
is_table (Func u) = false
is_table Table = true
is_table Memory = false
is_table (Global ty mutable) = false

abbrev pub is_memory : Offer → Bool
is_memory (Func u) = false
is_memory Table = false
is_memory Memory = true
is_memory (Global ty mutable) = false

abbrev pub is_global : Offer → ValType → Bool → Bool
is_global (Func u) wanted changes = false
is_global Table wanted changes = false
is_global Memory wanted changes = false
is_global (Global ty mutable) wanted changes = equal_type ty wanted && equal_bool mutable changes

-- an offer of one module is of the kind and the type that an import of another asks for
abbrev pub is_of_kind : Module → Offer → Module → ImportKind → Bool
is_of_kind from offer m (ImportFunc t) = is_func from offer (type_in m t)
is_of_kind from offer m (ImportTable limits) = is_table offer
is_of_kind from offer m (ImportMemory limits) = is_memory offer
is_of_kind from offer m (ImportGlobal wanted changes) = is_global offer wanted changes
