-- The faults of a module outside its bodies (WebAssembly Core 1.0, 3.2 and 3.4): a list for each row of the table of
-- causes, in the table's order, and in a row the order of the bytes.
use Rattle.std.specs.Prelude.{ℕ, ◌==◌, Bool, true, false, not, ◌||◌, ◌&&◌, List, [], ◌∷◌, ◌++◌, map, length, flat_map, bytes_eq, slice_get}
use Rattle.std.specs.Prelude.{nat_lt, is_none, Option, Some, None}
use Rattle.std.specs.List.{list_any}
use Rattle.w2c_base.specs.declared.value.ValType.{ValType}
use Rattle.w2c_base.specs.declared.value.ValType.TheVariants as type
use Rattle.w2c_base.specs.declared.signature.FuncType.{FuncType}
use Rattle.w2c_base.specs.Values.{equal_type}
use Rattle.wasm_tree.specs.declared.tree.Module.{Module}
use Rattle.wasm_tree.specs.declared.entries.Limits.{Limits}
use Rattle.wasm_tree.specs.declared.entries.Import.{Import}
use Rattle.wasm_tree.specs.declared.entries.ImportKind.TheVariants.{Func as ImportFunc}
use Rattle.wasm_tree.specs.declared.entries.Export.{Export}
use Rattle.wasm_tree.specs.declared.entries.ExportKind.TheVariants.{Func as ExportFunc, Table as ExportTable, Memory as ExportMemory}
use Rattle.wasm_tree.specs.declared.entries.ExportKind.TheVariants.{Global as ExportGlobal}
use Rattle.wasm_tree.specs.declared.entries.Start.{Start}
use Rattle.wasm_tree.specs.Instructions.{Code, end_code, then_code, I32Const, I64Const, GlobalGet}
use Rattle.wasm_tree.specs.IndexSpaces.{func_space, table_space, memory_space, imported_global_space, global_space, type_in, func_type_in}
use Rattle.wasm_typing.specs.declared.fault.ValidCause.{ValidCause}
use Rattle.wasm_typing.specs.declared.fault.ValidCause.TheVariants as cause
use Rattle.wasm_typing.specs.declared.fault.Fault.{Fault}

-- one fault where a test holds
abbrev pub fault_if : Bool → ℕ → ValidCause → List Fault
fault_if true place cause = record { place = place; cause = cause } ∷ []
fault_if false place cause = []

abbrev pub is_out : {A : Type 0} → List A → ℕ → Bool
is_out space index = is_none (slice_get space index)

-- the type of an imported or a defined function is unknown: at the type's index
abbrev pub unknown_import_type : Module → Import → List Fault
unknown_import_type m i = elim i.kind [ ImportFunc t ↦ fault_if (is_none (type_in m t)) i.place cause.UnknownType | _ ↦ [] ]

abbrev pub unknown_types : Module → List Fault
unknown_types m =
    flat_map (unknown_import_type m) m.imports
    ++ flat_map (λ f. fault_if (is_none (type_in m f.type_index)) f.place cause.UnknownType) m.funcs

-- a second table or memory, imports first: at the flag of its limits
abbrev pub too_many : ValidCause → List Limits → List Fault
too_many cause [] = []
too_many cause (first ∷ []) = []
too_many cause (first ∷ second ∷ others) = record { place = second.place; cause = cause } ∷ []

-- limits (3.2.1), tables (3.2.3) and memories (3.2.4): at the flag
abbrev pub is_above : ℕ → Option ℕ → Bool
is_above min None = false
is_above min (Some max) = nat_lt max min

abbrev pub min_above_max : Limits → List Fault
min_above_max limits = fault_if (is_above limits.min limits.max) limits.place cause.MinAboveMax

abbrev pub most_pages : ℕ
most_pages = 65536

abbrev pub has_too_many_pages : Option ℕ → Bool
has_too_many_pages None = false
has_too_many_pages (Some max) = nat_lt most_pages max

abbrev pub too_many_pages : Limits → List Fault
too_many_pages limits = fault_if (has_too_many_pages limits.max) limits.place cause.TooManyPages

-- an initial or an offset expression (3.3.7): the type that its value must have, the globals that it may get, and its
-- first byte. A global's expression gets imported globals alone
pub record Expression : Type 0 where
  pub code : Code
  pub ty : ValType
  pub globals : List (ValType × Bool)
  pub place : ℕ

abbrev pub expressions : Module → List Expression
expressions m =
    map (λ g. record { code = g.code; ty = g.ty; globals = imported_global_space m; place = g.place }) m.globals
    ++ (map (λ e. record { code = e.offset; ty = type.I32; globals = global_space m; place = e.offset_place }) m.elements
    ++ map (λ s. record { code = s.offset; ty = type.I32; globals = global_space m; place = s.offset_place }) m.segments)

-- what an expression is: one constant, or one `global.get`, of which the global may be unknown; or neither
pub data Shape : Type 0 where
  constant : (ty : ValType) → Shape
  got : (ty : ValType) → (mutable : Bool) → Shape
  got_unknown : Shape
  neither : Shape

abbrev pub shape_of_global : Option (ValType × Bool) → Shape
shape_of_global None = got_unknown
shape_of_global (Some g) = got g.0 g.1

abbrev pub shape_of : List (ValType × Bool) → Code → Shape
shape_of globals (then_code place (I32Const number) end_code) = constant type.I32
shape_of globals (then_code place (I64Const number) end_code) = constant type.I64
shape_of globals (then_code place (GlobalGet index) end_code) = shape_of_global (slice_get globals index)
shape_of globals _ = neither

abbrev pub is_no_constant : Shape → Bool
is_no_constant neither = true
is_no_constant (got ty mutable) = mutable
is_no_constant _ = false

abbrev pub is_got_unknown : Shape → Bool
is_got_unknown got_unknown = true
is_got_unknown _ = false

abbrev pub has_other_type : ValType → Shape → Bool
has_other_type wanted (constant ty) = not (equal_type ty wanted)
has_other_type wanted (got ty mutable) = not (equal_type ty wanted)
has_other_type wanted _ = false

abbrev pub constant_expected : Expression → List Fault
constant_expected e = fault_if (is_no_constant (shape_of e.globals e.code)) e.place cause.ConstantExpected

abbrev pub unknown_global : Expression → List Fault
unknown_global e = fault_if (is_got_unknown (shape_of e.globals e.code)) e.place cause.UnknownGlobal

abbrev pub type_mismatch : Expression → List Fault
type_mismatch e = fault_if (has_other_type e.ty (shape_of e.globals e.code)) e.place cause.TypeMismatch

-- an export of something that is not there (3.4.8): at the index
abbrev pub unknown_export : Module → Export → List Fault
unknown_export m e = elim e.kind [
  | ExportFunc ↦ fault_if (is_out (func_space m) e.index) e.index_place cause.UnknownFunction
  | ExportTable ↦ fault_if (is_out (table_space m) e.index) e.index_place cause.UnknownTable
  | ExportMemory ↦ fault_if (is_out (memory_space m) e.index) e.index_place cause.UnknownMemory
  | ExportGlobal ↦ fault_if (is_out (global_space m) e.index) e.index_place cause.UnknownGlobal
]

-- an export with the name of an earlier one (3.4.10): at the name's length
abbrev pub duplicate_exports : List Export → List Export → List Fault
duplicate_exports earlier [] = []
duplicate_exports earlier (e ∷ exports) =
    fault_if (list_any (λ other. bytes_eq other.name e.name) earlier) e.name_place cause.DuplicateExport
    ++ duplicate_exports (earlier ++ e ∷ []) exports

-- the start function (3.4.7) is unknown, or has another type than [] → []: at the index. Of a function without a type
-- nothing is said here
abbrev pub is_other_than_start : Option FuncType → Bool
is_other_than_start None = false
is_other_than_start (Some ty) = not (length ty.params == 0 && is_none ty.result)

abbrev pub start_faults : Module → Option Start → List Fault
start_faults m None = []
start_faults m (Some s) =
    fault_if (is_out (func_space m) s.index) s.place cause.UnknownFunction
    ++ fault_if (is_other_than_start (func_type_in m s.index)) s.place cause.StartType

-- a segment (3.4.5, 3.4.6) of another table or memory than the first, or of one that is not there: at the index
abbrev pub is_no_first : {A : Type 0} → List A → ℕ → Bool
is_no_first space index = not (index == 0) || is_out space 0

abbrev pub unknown_segments : Module → List Fault
unknown_segments m =
    flat_map (λ e. fault_if (is_no_first (table_space m) e.table) e.place cause.UnknownTable) m.elements
    ++ flat_map (λ s. fault_if (is_no_first (memory_space m) s.memory) s.place cause.UnknownMemory) m.segments

-- a function in an element segment that is not there: at the entry
abbrev pub unknown_elements : Module → List Fault
unknown_elements m = flat_map (λ e.
    flat_map (λ f. fault_if (is_out (func_space m) f.index) f.place cause.UnknownFunction) e.funcs) m.elements

-- the faults of a module outside its bodies, row by row
unfoldable pub module_faults : Module → List Fault
module_faults m =
    unknown_types m
    ++ (too_many cause.TooManyTables (table_space m) ++ too_many cause.TooManyMemories (memory_space m)
    ++ (flat_map min_above_max (table_space m ++ memory_space m)
    ++ (flat_map too_many_pages (memory_space m)
    ++ (flat_map constant_expected (expressions m)
    ++ (flat_map unknown_global (expressions m)
    ++ (flat_map type_mismatch (expressions m)
    ++ (flat_map (unknown_export m) m.exports
    ++ (duplicate_exports [] m.exports
    ++ (start_faults m m.start
    ++ (unknown_segments m
    ++ unknown_elements m))))))))))
