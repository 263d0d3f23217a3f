-- The symbols of a module's imports and exports, and the type that each has in the module's unit
-- (WebAssembly Core 1.0, 2.5.10 exports and 2.5.11 imports). A symbol that the unit defines has the
-- export's type there; of several imports with one symbol the first gives the type.
use Rattle.std.specs.Prelude.{ℕ, Bool, false, if◌then◌else◌, List, [], ◌∷◌, ◌++◌, map, Option, Some, None}
use Rattle.w2c_base.specs.declared.value.ValType.{ValType}
use Rattle.w2c_base.specs.declared.value.ValType.TheVariants.{I32, I64}
use Rattle.w2c_base.specs.declared.signature.FuncType.{FuncType}
use Rattle.w2c_base.specs.Lookup.{named}
use Rattle.w2c_mangle.specs.declared.symbol.SymbolKind.{SymbolKind}
use Rattle.w2c_mangle.specs.declared.symbol.SymbolKind.TheVariants as symbol
use Rattle.w2c_mangle.specs.Symbols.{export_symbol_of}
use Rattle.wasm_tree.specs.declared.tree.Module.{Module}
use Rattle.wasm_tree.specs.declared.entries.Import.{Import}
use Rattle.wasm_tree.specs.declared.entries.Export.{Export}
use Rattle.wasm_tree.specs.declared.entries.ImportKind.TheVariants.{Func as ImportFunc, Table as ImportTable, Memory as ImportMemory}
use Rattle.wasm_tree.specs.declared.entries.ImportKind.TheVariants.{Global as ImportGlobal}
use Rattle.wasm_tree.specs.declared.entries.ExportKind.TheVariants.{Func as ExportFunc, Table as ExportTable, Memory as ExportMemory}
use Rattle.wasm_tree.specs.declared.entries.ExportKind.TheVariants.{Global as ExportGlobal}
use Rattle.wasm_tree.specs.IndexSpaces.{type_in, func_type_in, global_type_in}
pub use Rattle.wasm_tree.specs.IndexSpaces.{func_imports, table_imports, memory_imports, global_imports}
use Rattle.wasm_tree.specs.NamedModule.{NamedModule}
use Rattle.c_tree.specs.declared.tree.CType.{CType}
use Rattle.c_tree.specs.declared.tree.CType.TheVariants as type
use Rattle.c_tree.specs.Tree as tree
use Rattle.c_tree.specs.Runtime.{same_func_type}
use Rattle.c_tree.specs.Scope.{Name, is_among}
pub use Rattle.c_tree.specs.TypesInC.{c_func_type_of as c_func_type}

-- ---- types

-- of a function that may have no type: then as if it had no parameters and no result
abbrev pub c_func_type_if : Option FuncType → tree.FuncType
c_func_type_if None = record { params = type.Void ∷ []; result = type.Void }
c_func_type_if (Some ty) = c_func_type ty

-- the function without parameters that gives a pointer to an object
abbrev pub accessor_type : CType → tree.FuncType
accessor_type pointer = record { params = type.Void ∷ []; result = pointer }

abbrev pub pointer_type : ValType → CType
pointer_type I32 = type.PtrU32
pointer_type I64 = type.PtrU64

abbrev pub global_kind : Bool → SymbolKind
global_kind mutable = if mutable then symbol.Var else symbol.Const

-- a symbol and the type of its function
abbrev pub Typed : Type 0
Typed = Name × tree.FuncType

-- ---- imports

abbrev pub import_symbol : Import → Name
import_symbol i = elim i.kind [
  | ImportFunc t ↦ export_symbol_of i.«module» symbol.Func i.field
  | ImportTable l ↦ export_symbol_of i.«module» symbol.Table i.field
  | ImportMemory l ↦ export_symbol_of i.«module» symbol.Memory i.field
  | ImportGlobal t mutable ↦ export_symbol_of i.«module» (global_kind mutable) i.field
]

abbrev pub import_type : Module → Import → tree.FuncType
import_type m i = elim i.kind [
  | ImportFunc t ↦ c_func_type_if (type_in m t)
  | ImportTable l ↦ accessor_type type.PtrTab
  | ImportMemory l ↦ accessor_type type.PtrMem
  | ImportGlobal t mutable ↦ accessor_type (pointer_type t)
]

-- ---- exports

abbrev pub global_symbol : List ℕ → Option (ValType × Bool) → List ℕ → Name
global_symbol module_name None name = export_symbol_of module_name symbol.Const name
global_symbol module_name (Some global) name = export_symbol_of module_name (global_kind global.1) name

abbrev pub global_accessor_type : Option (ValType × Bool) → tree.FuncType
global_accessor_type None = accessor_type type.PtrU32
global_accessor_type (Some global) = accessor_type (pointer_type global.0)

abbrev pub export_symbol : NamedModule → Export → Name
export_symbol m e = elim e.kind [
  | ExportFunc ↦ export_symbol_of m.name symbol.Func e.name
  | ExportTable ↦ export_symbol_of m.name symbol.Table e.name
  | ExportMemory ↦ export_symbol_of m.name symbol.Memory e.name
  | ExportGlobal ↦ global_symbol m.name (global_type_in m.tree e.index) e.name
]

abbrev pub export_type : Module → Export → tree.FuncType
export_type m e = elim e.kind [
  | ExportFunc ↦ c_func_type_if (func_type_in m e.index)
  | ExportTable ↦ accessor_type type.PtrTab
  | ExportMemory ↦ accessor_type type.PtrMem
  | ExportGlobal ↦ global_accessor_type (global_type_in m e.index)
]

-- ---- what a symbol is in the unit

abbrev pub exported_symbols : NamedModule → List Typed
exported_symbols m = map (λ e. (export_symbol m e, export_type m.tree e)) m.tree.exports

abbrev pub imported_symbols : NamedModule → List Typed
imported_symbols m = map (λ i. (import_symbol i, import_type m.tree i)) m.tree.imports

-- the type of a symbol in the unit: that of the unit's own definition, else of the first import
abbrev pub symbol_type : NamedModule → Name → Option tree.FuncType
symbol_type m name = named name (exported_symbols m ++ imported_symbols m)

-- An import whose own type is that of its symbol. Only such ones are used; in a linked set each is.
abbrev pub is_usable : NamedModule → Import → Bool
is_usable m i = elim (symbol_type m (import_symbol i)) [ None ↦ false | Some t ↦ same_func_type t (import_type m.tree i) ]

-- each name once, where it stands first; `seen` are names that are left out
abbrev pub firsts : List Name → List Name → List Name
firsts seen [] = []
firsts seen (name ∷ names) = if is_among name seen then firsts seen names else name ∷ firsts (name ∷ seen) names

-- each of them has a type
abbrev pub declared_type : Option tree.FuncType → tree.FuncType
declared_type None = accessor_type type.Void
declared_type (Some t) = t

-- the symbols that the unit declares, each once, with their types there
abbrev pub declared_symbols : NamedModule → List Typed
declared_symbols m = map (λ name. (name, declared_type (symbol_type m name))) (firsts [] (map import_symbol m.tree.imports))
