-- Modules that are the same apart from places. A place says where something stands in a file and nothing of what it is.
use Rattle.std.specs.Prelude.{◌≡◌, ℕ, List, map, Option, Some, None}
use Rattle.wasm_tree.specs.declared.entries.TypeEntry.{TypeEntry}
use Rattle.wasm_tree.specs.declared.entries.Limits.{Limits}
use Rattle.wasm_tree.specs.declared.entries.ImportKind.{ImportKind}
use Rattle.wasm_tree.specs.declared.entries.ImportKind.TheVariants as imported
use Rattle.wasm_tree.specs.declared.entries.Import.{Import}
use Rattle.wasm_tree.specs.declared.entries.FuncEntry.{FuncEntry}
use Rattle.wasm_tree.specs.declared.entries.LimitsEntry.{LimitsEntry}
use Rattle.wasm_tree.specs.declared.entries.GlobalEntry.{GlobalEntry}
use Rattle.wasm_tree.specs.declared.entries.Export.{Export}
use Rattle.wasm_tree.specs.declared.entries.Start.{Start}
use Rattle.wasm_tree.specs.declared.entries.DataCount.{DataCount}
use Rattle.wasm_tree.specs.declared.entries.FuncRef.{FuncRef}
use Rattle.wasm_tree.specs.declared.entries.ElementEntry.{ElementEntry}
use Rattle.wasm_tree.specs.declared.entries.SegmentEntry.{SegmentEntry}
use Rattle.wasm_tree.specs.declared.entries.BodyEntry.{BodyEntry}
use Rattle.wasm_tree.specs.declared.tree.Module.{Module}
use Rattle.wasm_tree.specs.Instructions.{Code, end_code, then_code, Kind, Otherwise, no_else, else_code, Block, Loop, If}
use Rattle.wasm_tree.specs.Bytes.{AreBytes}
use Rattle.wasm_spelling.specs.ModuleFields.{Spells}

-- Each of these gives the same with every place 0.
abbrev mutual
  pub bare_code : Code → Code
  bare_code end_code = end_code
  bare_code (then_code place kind code) = then_code 0 (bare_kind kind) (bare_code code)

  pub bare_kind : Kind → Kind
  bare_kind (Block result code end_place) = Block result (bare_code code) 0
  bare_kind (Loop result code end_place) = Loop result (bare_code code) 0
  bare_kind (If result code otherwise end_place) = If result (bare_code code) (bare_otherwise otherwise) 0
  bare_kind kind = kind

  pub bare_otherwise : Otherwise → Otherwise
  bare_otherwise no_else = no_else
  bare_otherwise (else_code place code) = else_code 0 (bare_code code)

abbrev pub bare_limits : Limits → Limits
bare_limits l = record l { place = 0 }

abbrev pub bare_type : TypeEntry → TypeEntry
bare_type t = record t { place = 0 }

abbrev pub bare_import_kind : ImportKind → ImportKind
bare_import_kind (imported.Func type_index) = imported.Func type_index
bare_import_kind (imported.Table l) = imported.Table (bare_limits l)
bare_import_kind (imported.Memory l) = imported.Memory (bare_limits l)
bare_import_kind (imported.Global ty mutable) = imported.Global ty mutable

abbrev pub bare_import : Import → Import
bare_import i = record i { kind = bare_import_kind i.kind; place = 0 }

abbrev pub bare_func : FuncEntry → FuncEntry
bare_func f = record f { place = 0 }

abbrev pub bare_limits_entry : LimitsEntry → LimitsEntry
bare_limits_entry l = record { limits = bare_limits l.limits; place = 0 }

abbrev pub bare_global : GlobalEntry → GlobalEntry
bare_global g = record g { code = bare_code g.code; place = 0 }

abbrev pub bare_export : Export → Export
bare_export e = record e { name_place = 0; index_place = 0 }

abbrev pub bare_start : Option Start → Option Start
bare_start None = None
bare_start (Some s) = Some (record s { place = 0 })

abbrev pub bare_data_count : Option DataCount → Option DataCount
bare_data_count None = None
bare_data_count (Some d) = Some (record d { place = 0 })

abbrev pub bare_func_ref : FuncRef → FuncRef
bare_func_ref f = record f { place = 0 }

abbrev pub bare_element : ElementEntry → ElementEntry
bare_element e = record e { offset = bare_code e.offset; funcs = map bare_func_ref e.funcs; place = 0; offset_place = 0 }

abbrev pub bare_segment : SegmentEntry → SegmentEntry
bare_segment s = record s { offset = bare_code s.offset; place = 0; offset_place = 0 }

abbrev pub bare_body : BodyEntry → BodyEntry
bare_body b = record b { code = bare_code b.code; end_place = 0 }

abbrev pub bare_module : Module → Module
bare_module t = record {
  types = map bare_type t.types;
  imports = map bare_import t.imports;
  funcs = map bare_func t.funcs;
  tables = map bare_limits_entry t.tables;
  memories = map bare_limits_entry t.memories;
  globals = map bare_global t.globals;
  exports = map bare_export t.exports;
  start = bare_start t.start;
  elements = map bare_element t.elements;
  data_count = bare_data_count t.data_count;
  segments = map bare_segment t.segments;
  bodies = map bare_body t.bodies;
}

-- they differ in places alone
abbrev pub SameApartFromPlaces : Module → Module → Type 0
SameApartFromPlaces t u = bare_module t ≡ bare_module u

-- the bytes spell the module, places aside
abbrev pub SpellsAside : Module → List ℕ → Type 0
SpellsAside t bytes = (u : Module) × SameApartFromPlaces t u × Spells u bytes

-- some file spells it, places aside
abbrev pub IsFormed : Module → Type 0
IsFormed t = (bytes : List ℕ) × AreBytes bytes × SpellsAside t bytes
