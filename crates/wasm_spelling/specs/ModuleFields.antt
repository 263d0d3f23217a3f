-- The fields of a module in binary order (WebAssembly Core 1.0, 5.3 to 5.5; Core 2.0, 5.5.15, for the number of data segments), and
-- which bytes spell it. The limits stand as conditions at the fields of which they speak.
use Rattle.std.specs.Prelude.{ℕ, ◌+◌, ◌-◌, List, [], ◌∷◌, length, Bool, true, false, Option, Some, None, option_to_list, is_none, nat_le}
use Rattle.std.specs.Prelude.{nat_lt, ◌==◌, ◌≤◌}
use Rattle.std.specs.Str.{is_utf8}
use Rattle.w2c_base.specs.declared.value.ValType.{ValType}
use Rattle.w2c_base.specs.declared.value.ValType.TheVariants.{I32, I64}
use Rattle.w2c_base.specs.declared.signature.FuncType.{FuncType}
use Rattle.wasm_tree.specs.declared.entries.TypeEntry.{TypeEntry}
use Rattle.wasm_tree.specs.declared.entries.Limits.{Limits}
use Rattle.wasm_tree.specs.declared.entries.ImportKind.{ImportKind}
use Rattle.wasm_tree.specs.declared.entries.ImportKind.TheVariants as imported
use Rattle.wasm_tree.specs.declared.entries.Import.{Import}
use Rattle.wasm_tree.specs.declared.entries.FuncEntry.{FuncEntry}
use Rattle.wasm_tree.specs.declared.entries.LimitsEntry.{LimitsEntry}
use Rattle.wasm_tree.specs.declared.entries.GlobalEntry.{GlobalEntry}
use Rattle.wasm_tree.specs.declared.entries.ExportKind.{ExportKind}
use Rattle.wasm_tree.specs.declared.entries.ExportKind.TheVariants as exported
use Rattle.wasm_tree.specs.declared.entries.Export.{Export}
use Rattle.wasm_tree.specs.declared.entries.Start.{Start}
use Rattle.wasm_tree.specs.declared.entries.DataCount.{DataCount}
use Rattle.wasm_tree.specs.declared.entries.FuncRef.{FuncRef}
use Rattle.wasm_tree.specs.declared.entries.ElementEntry.{ElementEntry}
use Rattle.wasm_tree.specs.declared.entries.SegmentEntry.{SegmentEntry}
use Rattle.wasm_tree.specs.declared.entries.Run.{Run}
use Rattle.wasm_tree.specs.declared.entries.BodyEntry.{BodyEntry}
use Rattle.wasm_tree.specs.declared.tree.Module.{Module}
use Rattle.wasm_tree.specs.Instructions.{Code, end_code, then_code, Kind, no_else, else_code, Block, Loop, If, Br, BrIf, BrTable, Call}
use Rattle.wasm_tree.specs.Instructions.{CallIndirect, LocalGet, LocalSet, LocalTee, GlobalGet, GlobalSet, Load, Store, MemorySize}
use Rattle.wasm_tree.specs.Instructions.{MemoryGrow, MemoryCopy, MemoryFill, I32Const, I64Const}
use Rattle.wasm_tree.specs.InstructionTable.{opcode_of}
use Rattle.wasm_tree.specs.Limits.{most_parameters, most_results, most_name_bytes, most_functions, most_locals, most_all_locals}
use Rattle.wasm_tree.specs.Limits.{most_blocks, most_memory_pages, most_table_elements, most_module_bytes}
use Rattle.wasm_spelling.specs.Fields.{Custom, Fields, finished, byte, number, signed, text, here, provided, window, either, for_some}
use Rattle.wasm_spelling.specs.Fields.{Spelled}

-- one after another
abbrev pub each : {A : Type 0} → (A → Fields → Fields) → List A → Fields → Fields
each fields [] rest = rest
each fields (v ∷ vs) rest = fields v (each fields vs rest)

-- a vector (5.1.3): the count, and the entries
abbrev pub vector : {A : Type 0} → (A → Fields → Fields) → List A → Fields → Fields
vector fields vs rest = number (length vs) (each fields vs rest)

-- with at most so many entries
abbrev pub short_vector : {A : Type 0} → ℕ → (A → Fields → Fields) → List A → Fields → Fields
short_vector most fields vs rest = number (length vs) (provided (nat_le (length vs) most) (each fields vs rest))

-- ---- names (5.2.4)

abbrev pub utf8 : List ℕ → Fields → Fields
utf8 t rest = text t (provided (is_utf8 t) rest)

abbrev pub any_name : List ℕ → Fields → Fields
any_name t rest = number (length t) (utf8 t rest)

-- of an import or an export
abbrev pub name : List ℕ → Fields → Fields
name t rest = number (length t) (provided (nat_le (length t) most_name_bytes) (utf8 t rest))

-- ---- types (5.3)

abbrev pub type_code : ValType → ℕ
type_code I32 = 0x7F
type_code I64 = 0x7E

abbrev pub value_type : ValType → Fields → Fields
value_type t rest = byte (type_code t) rest

abbrev pub block_type_code : Option ValType → ℕ
block_type_code None = 0x40
block_type_code (Some t) = type_code t

abbrev pub results : Option ValType → List ValType
results result = option_to_list result

abbrev pub func_type : FuncType → Fields → Fields
func_type ty rest =
    byte 0x60 (short_vector most_parameters value_type ty.params (short_vector most_results value_type (results ty.result) rest))

-- a flag, and sizes of which the least is at most so much
abbrev pub limits_from : ℕ → ℕ → Option ℕ → Fields → Fields
limits_from most min None rest = byte 0x00 (number min (provided (nat_le min most) rest))
limits_from most min (Some max) rest = byte 0x01 (number min (provided (nat_le min most) (number max rest)))

abbrev pub limits : ℕ → Limits → Fields → Fields
limits most l rest = here l.place (limits_from most l.min l.max rest)

abbrev pub table_type : Limits → Fields → Fields
table_type l rest = byte 0x70 (limits most_table_elements l rest)

abbrev pub memory_type : Limits → Fields → Fields
memory_type l rest = limits most_memory_pages l rest

abbrev pub mutability_code : Bool → ℕ
mutability_code false = 0x00
mutability_code true = 0x01

-- ---- instructions (5.4), where so many blocks may still be opened

-- what stands behind the opcode of an instruction that is no block
abbrev pub immediates : Kind → Fields → Fields
immediates (Br label) rest = number label rest
immediates (BrIf label) rest = number label rest
immediates (BrTable labels default) rest = vector number labels (number default rest)
immediates (Call func) rest = number func rest
immediates (CallIndirect type_index) rest = number type_index (number 0 rest)
immediates (LocalGet index) rest = number index rest
immediates (LocalSet index) rest = number index rest
immediates (LocalTee index) rest = number index rest
immediates (GlobalGet index) rest = number index rest
immediates (GlobalSet index) rest = number index rest
immediates (Load op arg) rest = number arg.align (number arg.offset rest)
immediates (Store op arg) rest = number arg.align (number arg.offset rest)
immediates MemorySize rest = byte 0x00 rest
immediates MemoryGrow rest = byte 0x00 rest
immediates MemoryCopy rest = number 10 (byte 0x00 (byte 0x00 rest))
immediates MemoryFill rest = number 11 (byte 0x00 rest)
immediates (I32Const n) rest = signed 32 n rest
immediates (I64Const n) rest = signed 64 n rest
immediates kind rest = rest

abbrev pub end_byte : ℕ → Fields → Fields
end_byte place rest = here place (byte 0x0B rest)

-- a block is opened
abbrev opens : (room opcode : ℕ) → (result : Option ValType) → Fields → Fields
opens room opcode result rest = byte opcode (provided (nat_lt 0 room) (byte (block_type_code result) rest))

abbrev mutual
  pub code_fields : ℕ → Code → Fields → Fields
  code_fields room end_code rest = rest
  code_fields room (then_code place kind code) rest = here place (instr_fields room kind (code_fields room code rest))

  pub instr_fields : ℕ → Kind → Fields → Fields
  instr_fields room (Block t code end_place) rest = opens room 0x02 t (code_fields (room - 1) code (end_byte end_place rest))
  instr_fields room (Loop t code end_place) rest = opens room 0x03 t (code_fields (room - 1) code (end_byte end_place rest))
  instr_fields room (If t code no_else end_place) rest = opens room 0x04 t (code_fields (room - 1) code (end_byte end_place rest))
  instr_fields room (If t code (else_code else_place other) end_place) rest = opens room 0x04 t (code_fields (room - 1) code
      (here else_place (byte 0x05 (code_fields (room - 1) other (end_byte end_place rest)))))
  instr_fields room kind rest = byte (opcode_of kind) (immediates kind rest)

-- an expression, whose end is not kept
abbrev pub expression : Code → Fields → Fields
expression code rest = code_fields most_blocks code (byte 0x0B rest)

-- ---- the entries of sections (5.5)

abbrev pub type_entry : TypeEntry → Fields → Fields
type_entry t rest = here t.place (func_type t.ty rest)

-- the kind, and from the place on what is imported
abbrev pub import_kind : ImportKind → ℕ → Fields → Fields
import_kind (imported.Func type_index) place rest = byte 0x00 (here place (number type_index rest))
import_kind (imported.Table l) place rest = byte 0x01 (here place (table_type l rest))
import_kind (imported.Memory l) place rest = byte 0x02 (here place (memory_type l rest))
import_kind (imported.Global ty mutable) place rest = byte 0x03 (here place (value_type ty (byte (mutability_code mutable) rest)))

abbrev pub import_entry : Import → Fields → Fields
import_entry i rest = name i.«module» (name i.field (import_kind i.kind i.place rest))

abbrev pub func_entry : FuncEntry → Fields → Fields
func_entry f rest = here f.place (number f.type_index rest)

abbrev pub table_entry : LimitsEntry → Fields → Fields
table_entry t rest = here t.place (table_type t.limits rest)

abbrev pub memory_entry : LimitsEntry → Fields → Fields
memory_entry m rest = here m.place (memory_type m.limits rest)

abbrev pub global_entry : GlobalEntry → Fields → Fields
global_entry g rest = value_type g.ty (byte (mutability_code g.mutable) (here g.place (expression g.code rest)))

abbrev pub export_code : ExportKind → ℕ
export_code exported.Func = 0x00
export_code exported.Table = 0x01
export_code exported.Memory = 0x02
export_code exported.Global = 0x03

abbrev pub export_entry : Export → Fields → Fields
export_entry e rest = here e.name_place (name e.name (byte (export_code e.kind) (here e.index_place (number e.index rest))))

abbrev pub start_entry : Start → Fields → Fields
start_entry s rest = here s.place (number s.index rest)

abbrev pub func_ref : FuncRef → Fields → Fields
func_ref f rest = here f.place (number f.index rest)

abbrev pub element_entry : ElementEntry → Fields → Fields
element_entry e rest = here e.place (number e.table (here e.offset_place (expression e.offset (vector func_ref e.funcs rest))))

abbrev pub segment_entry : SegmentEntry → Fields → Fields
segment_entry s rest =
    here s.place (number s.memory (here s.offset_place (expression s.offset (number (length s.bytes) (text s.bytes rest)))))

-- runs of locals (5.5.13), where so many locals of the body and of all bodies stand before them
abbrev pub runs : (locals all_locals : ℕ) → List Run → Fields → Fields
runs locals all_locals [] rest = rest
runs locals all_locals (r ∷ rs) rest =
    number r.count (provided (nat_le (locals + r.count) most_locals) (provided (nat_le (all_locals + r.count) most_all_locals)
    (value_type r.ty (runs (locals + r.count) (all_locals + r.count) rs rest))))

abbrev pub locals_of : List Run → ℕ
locals_of [] = 0
locals_of (r ∷ rs) = r.count + locals_of rs

-- bodies, where so many locals stand in bodies before them
abbrev pub bodies : ℕ → List BodyEntry → Fields → Fields
bodies all_locals [] rest = rest
bodies all_locals (b ∷ bs) rest =
    window (number (length b.runs) (runs 0 all_locals b.runs (code_fields most_blocks b.code (end_byte b.end_place finished))))
    (bodies (all_locals + locals_of b.runs) bs rest)

-- ---- sections (5.5.2 and 5.5.3)

abbrev pub custom : Custom → Fields → Fields
custom c rest = byte 0x00 (window (any_name c.name (text c.bytes finished)) rest)

-- any custom sections
abbrev pub customs : Fields → Fields
customs rest = for_some (λ cs. each custom cs rest)

-- the sections other than custom ones
pub data Part : Type 0 where
  types imports functions tables memories globals exports start elements data_count code segments : Part

abbrev pub parts : List Part
parts = types ∷ imports ∷ functions ∷ tables ∷ memories ∷ globals ∷ exports ∷ start ∷ elements ∷ data_count ∷ code ∷ segments ∷ []

abbrev pub id_of : Part → ℕ
id_of types = 1
id_of imports = 2
id_of functions = 3
id_of tables = 4
id_of memories = 5
id_of globals = 6
id_of exports = 7
id_of start = 8
id_of elements = 9
id_of data_count = 12
id_of code = 10
id_of segments = 11

-- the place in the order of sections: that of the ids, but that data_count stands in front of code
abbrev pub rank_of : Part → ℕ
rank_of data_count = 10
rank_of code = 11
rank_of segments = 12
rank_of part = id_of part

abbrev pub start_content : Option Start → Fields → Fields
start_content None rest = provided false rest
start_content (Some s) rest = start_entry s rest

-- the number of data segments
abbrev pub data_count_content : Option DataCount → ℕ → Fields → Fields
data_count_content None found rest = provided false rest
data_count_content (Some d) found rest = here d.place (number d.count (provided (d.count == found) rest))

-- what a section contains
abbrev pub content : Part → Module → Fields → Fields
content types t rest = vector type_entry t.types rest
content imports t rest = vector import_entry t.imports rest
content functions t rest = short_vector most_functions func_entry t.funcs rest
content tables t rest = vector table_entry t.tables rest
content memories t rest = vector memory_entry t.memories rest
content globals t rest = vector global_entry t.globals rest
content exports t rest = vector export_entry t.exports rest
content start t rest = start_content t.start rest
content elements t rest = vector element_entry t.elements rest
content data_count t rest = data_count_content t.data_count (length t.segments) rest
content code t rest = number (length t.bodies) (bodies 0 t.bodies rest)
content segments t rest = vector segment_entry t.segments rest

-- it has no entries
abbrev pub is_empty : Part → Module → Bool
is_empty types t = length t.types == 0
is_empty imports t = length t.imports == 0
is_empty functions t = length t.funcs == 0
is_empty tables t = length t.tables == 0
is_empty memories t = length t.memories == 0
is_empty globals t = length t.globals == 0
is_empty exports t = length t.exports == 0
is_empty start t = is_none t.start
is_empty elements t = length t.elements == 0
is_empty data_count t = is_none t.data_count
is_empty code t = length t.bodies == 0
is_empty segments t = length t.segments == 0

-- a section that may be left out where it has no entries
abbrev pub section : Part → Module → Fields → Fields
section part t rest = either (provided (is_empty part t) rest) (byte (id_of part) (window (content part t finished) rest))

abbrev pub sections : List Part → Module → Fields → Fields
sections [] t rest = customs rest
sections (part ∷ more) t rest = customs (section part t (sections more t rest))

-- magic, version (5.5.15), and the sections; as many bodies as functions
abbrev pub magic : Fields → Fields
magic rest = byte 0x00 (byte 0x61 (byte 0x73 (byte 0x6D rest)))

abbrev pub version : Fields → Fields
version rest = byte 0x01 (byte 0x00 (byte 0x00 (byte 0x00 rest)))

abbrev pub module_fields : Module → Fields
module_fields t = magic (version (provided (length t.funcs == length t.bodies) (sections parts t finished)))

-- the bytes are those of the module
abbrev pub Spells : Module → List ℕ → Type 0
Spells t bytes = Spelled (module_fields t) 0 bytes × (length bytes ≤ most_module_bytes)
