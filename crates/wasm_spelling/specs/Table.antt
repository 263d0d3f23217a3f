-- The first fault of a file, by one flat table: a field that is expected is spelled by some bytes, and further
-- fields then stand in its place (WebAssembly Core 1.0, 5.3 to 5.5; Core 2.0, 5.4.6 and 5.5.15).
use Rattle.std.specs.Prelude.{◌≡◌, ℕ, zero, suc, ◌-◌, List, [], ◌∷◌, ◌++◌, length, take, drop, Bool, true, false, Result, Ok, Err, None}
use Rattle.std.specs.Prelude.{nat_lt, ◌==◌, if◌then◌else◌}
use Rattle.wasm_tree.specs.declared.entries.ExportKind.{ExportKind}
use Rattle.wasm_tree.specs.declared.entries.ExportKind.TheVariants as kind
use Rattle.wasm_tree.specs.InstructionTable.{Form, nothing, an_index, a_mem_arg, labels, a_type, a_zero, an_i32, an_i64, a_sub_opcode}
use Rattle.wasm_tree.specs.Limits.{most_parameters, most_results, most_name_bytes, most_functions, most_blocks, most_memory_pages}
use Rattle.wasm_tree.specs.Limits.{most_table_elements}
use Rattle.wasm_spelling.specs.declared.fault.ReadFault.{ReadFault}
use Rattle.wasm_spelling.specs.declared.fault.Cause.{Cause}
use Rattle.wasm_spelling.specs.declared.fault.Cause.TheVariants as cause
use Rattle.wasm_spelling.specs.declared.fault.Which.TheVariants as which
use Rattle.wasm_spelling.specs.At.{At, Counts}
use Rattle.wasm_spelling.specs.ModuleFields.{Part, types, imports, functions, tables, memories, globals, exports, start, elements}
use Rattle.wasm_spelling.specs.ModuleFields.{data_count, code, segments}
use Rattle.wasm_spelling.specs.Steps as steps
use Rattle.wasm_spelling.specs.Steps.{◌>>=◌, malformed, checked, byte_at, number_at, signed32_at, signed64_at, bytes_at, rest_at, within}
use Rattle.wasm_spelling.specs.Steps.{utf8_of, type_of, block_type_of, flag_of, kind_of, zero_of, Head, the_end, the_else, a_block, a_loop}
use Rattle.wasm_spelling.specs.Steps.{an_if, a_form, head_of, functions_counted, no_locals, run_count_at, body_count_at, segment_count_at}
use Rattle.wasm_spelling.specs.Steps.{data_count_at, sub_opcode_of, SectionId, no_section, a_custom, a_part, section_id_at}

-- what the entries of a vector are
pub data Entry : Type 0 where
  of_types of_parameters of_results of_imports of_functions of_tables of_memories of_globals : Entry
  of_exports of_elements of_segments of_indexes of_runs : Entry

-- a field that is expected
pub data Field : Type 0 where
  exactly : (byte : ℕ) → Cause → Field
  -- a section, or the end of the file
  section : Field
  -- of a window, which the fields up to `used_up` use up
  size : Field
  used_up : Cause → Field
  any_bytes : Field
  any_name name : Field
  utf8 : (size : ℕ) → Field
  counted_bytes : Field
  raw_bytes : (size : ℕ) → Field
  vector : Entry → Field
  bodies : Field
  index value_type mutability import_kind export_kind : Field
  table_limits memory_limits : Field
  table_minimum memory_minimum : Field
  run : Field
  -- instructions, where so many blocks may still be opened and an `else` may stand or not
  instructions : (room : ℕ) → (may_else : Bool) → Field
  block_type signed32 signed64 zero_number sub_opcode segment_total : Field

-- where reading stands, what follows the innermost window in each window around it, and the fields expected
pub record State : Type 0 where
  pub at : At
  pub outer : List (List ℕ)
  pub fields : List Field

abbrev pub state : At → List (List ℕ) → List Field → State
state a outer fields = record { at = a; outer = outer; fields = fields }

-- ---- the fields of which others consist

abbrev pub parts_of : Entry → List Field
parts_of of_types = exactly 0x60 cause.BadForm ∷ vector of_parameters ∷ vector of_results ∷ []
parts_of of_parameters = value_type ∷ []
parts_of of_results = value_type ∷ []
parts_of of_imports = name ∷ name ∷ import_kind ∷ []
parts_of of_functions = index ∷ []
parts_of of_tables = exactly 0x70 cause.BadElementType ∷ table_limits ∷ []
parts_of of_memories = memory_limits ∷ []
parts_of of_globals = value_type ∷ mutability ∷ instructions most_blocks false ∷ []
parts_of of_exports = name ∷ export_kind ∷ index ∷ []
parts_of of_elements = index ∷ instructions most_blocks false ∷ vector of_indexes ∷ []
parts_of of_segments = index ∷ instructions most_blocks false ∷ counted_bytes ∷ []
parts_of of_indexes = index ∷ []
parts_of of_runs = run ∷ []

abbrev pub body_fields : List Field
body_fields = size ∷ vector of_runs ∷ instructions most_blocks false ∷ used_up cause.BodyNotUsedUp ∷ []

abbrev pub times : ℕ → List Field → List Field
times zero fields = []
times (suc n) fields = fields ++ times n fields

abbrev pub content_of : Part → List Field
content_of types = vector of_types ∷ []
content_of imports = vector of_imports ∷ []
content_of functions = vector of_functions ∷ []
content_of tables = vector of_tables ∷ []
content_of memories = vector of_memories ∷ []
content_of globals = vector of_globals ∷ []
content_of exports = vector of_exports ∷ []
content_of start = index ∷ []
content_of elements = vector of_elements ∷ []
content_of data_count = segment_total ∷ []
content_of code = bodies ∷ []
content_of segments = vector of_segments ∷ []

abbrev pub section_fields : SectionId → List Field
section_fields no_section = []
section_fields a_custom = size ∷ any_name ∷ any_bytes ∷ used_up cause.SectionNotUsedUp ∷ section ∷ []
section_fields (a_part part) = size ∷ (content_of part ++ used_up cause.SectionNotUsedUp ∷ section ∷ [])

abbrev pub import_fields : ExportKind → List Field
import_fields kind.Func = index ∷ []
import_fields kind.Table = exactly 0x70 cause.BadElementType ∷ table_limits ∷ []
import_fields kind.Memory = memory_limits ∷ []
import_fields kind.Global = value_type ∷ mutability ∷ []

-- behind a flag: the least size, and the greatest where the flag says so
abbrev pub sizes_of : Field → Bool → List Field
sizes_of minimum false = minimum ∷ []
sizes_of minimum true = minimum ∷ index ∷ []

abbrev pub form_fields : Form → List Field
form_fields (nothing kind) = []
form_fields (an_index make) = index ∷ []
form_fields (a_mem_arg make) = index ∷ index ∷ []
form_fields (labels make) = vector of_indexes ∷ index ∷ []
form_fields (a_type make) = index ∷ zero_number ∷ []
form_fields (a_zero kind) = exactly 0x00 cause.ZeroByteExpected ∷ []
form_fields (an_i32 make) = signed32 ∷ []
form_fields (an_i64 make) = signed64 ∷ []
form_fields a_sub_opcode = sub_opcode ∷ []

abbrev pub head_fields : ℕ → Bool → Head → List Field
head_fields room may_else the_end = []
head_fields room may_else the_else = instructions room false ∷ []
head_fields room may_else a_block = block_type ∷ instructions (room - 1) false ∷ instructions room may_else ∷ []
head_fields room may_else a_loop = block_type ∷ instructions (room - 1) false ∷ instructions room may_else ∷ []
head_fields room may_else an_if = block_type ∷ instructions (room - 1) true ∷ instructions room may_else ∷ []
head_fields room may_else (a_form form) = form_fields form ++ instructions room may_else ∷ []

-- a vector's count, with its limit
abbrev pub count_at : Entry → At → Result (ℕ × At) ReadFault
count_at of_parameters a = checked number_at (within most_parameters which.Parameters) a
count_at of_results a = checked number_at (within most_results which.Results) a
count_at of_functions a = checked number_at (within most_functions which.Functions) a >>= functions_counted
count_at of_runs a = number_at a >>= no_locals
count_at of_segments a = segment_count_at a
count_at _ a = number_at a

-- ---- the table

-- a window of so many bytes, whose size stands at a place
abbrev pub opens : ℕ → ℕ → At → List (List ℕ) → List Field → Result State ReadFault
opens place n a outer fields =
    if nat_lt (length a.left) n then malformed place cause.SizePastEnd
    else Ok (state (record a { left = take n a.left }) (drop n a.left ∷ outer) fields)

-- the window around the innermost one goes on
abbrev pub closes : At → List (List ℕ) → List Field → Result State ReadFault
closes a [] fields = Ok (state a [] fields)
closes a (left ∷ outer) fields = Ok (state (record a { left = left }) outer fields)

-- the field is read, and further fields stand in its place
abbrev pub on : {A : Type 0} → Result (A × At) ReadFault → (A → List Field) → List (List ℕ) → List Field → Result State ReadFault
on read more outer fields = read >>= λ x. Ok (state x.1 outer (more x.0 ++ fields))

abbrev pub none_more : {A : Type 0} → A → List Field
none_more _ = []

-- the table: how the first expected field is read, and what stands in its place then
unfoldable pub row : Field → At → List (List ℕ) → List Field → Result State ReadFault
row (exactly b c) a = on (checked byte_at (steps.exactly b c) a) none_more
row section a = on (section_id_at a) section_fields
row size a = λ outer fields. number_at a >>= λ n. opens a.place n.0 n.1 outer fields
row (used_up c) a = λ outer fields. if length a.left == 0 then closes a outer fields else malformed a.place c
row any_bytes a = on (rest_at a) none_more
row any_name a = on (number_at a) (λ n. utf8 n ∷ [])
row name a = on (checked number_at (within most_name_bytes which.NameLength) a) (λ n. utf8 n ∷ [])
row (utf8 n) a = on (checked (bytes_at n) utf8_of a) none_more
row counted_bytes a = on (number_at a) (λ n. raw_bytes n ∷ [])
row (raw_bytes n) a = on (bytes_at n a) none_more
row (vector entry) a = on (count_at entry a) (λ n. times n (parts_of entry))
row bodies a = on (body_count_at a) (λ n. times n body_fields)
row index a = on (number_at a) none_more
row value_type a = on (checked byte_at type_of a) none_more
row mutability a = on (checked byte_at (flag_of cause.BadMutability) a) none_more
row import_kind a = on (checked byte_at kind_of a) import_fields
row export_kind a = on (checked byte_at kind_of a) none_more
row table_limits a = on (checked byte_at (flag_of cause.BadLimitsFlag) a) (sizes_of table_minimum)
row memory_limits a = on (checked byte_at (flag_of cause.BadLimitsFlag) a) (sizes_of memory_minimum)
row table_minimum a = on (checked number_at (within most_table_elements which.TableLength) a) none_more
row memory_minimum a = on (checked number_at (within most_memory_pages which.MemoryPages) a) none_more
row run a = on (run_count_at a) (λ n. value_type ∷ [])
row (instructions room may_else) a = on (checked byte_at (head_of room may_else) a) (head_fields room may_else)
row block_type a = on (checked byte_at block_type_of a) none_more
row signed32 a = on (signed32_at a) none_more
row signed64 a = on (signed64_at a) none_more
row zero_number a = on (checked number_at zero_of a) none_more
row sub_opcode a = on (checked number_at sub_opcode_of a) (λ r. times r.zeros (exactly 0x00 cause.ZeroByteExpected ∷ []))
row segment_total a = on (data_count_at a) none_more

-- ---- the machine

abbrev pub next : At → List (List ℕ) → List Field → Result State ReadFault
next a outer [] = Ok (state a outer [])
next a outer (field ∷ fields) = row field a outer fields

abbrev pub step : State → Result State ReadFault
step s = next s.at s.outer s.fields

-- after n steps
unfoldable pub after : ℕ → State → Result State ReadFault
after zero s = Ok s
after (suc n) s = step s >>= after n

abbrev pub no_counts : Counts
no_counts = record { last_rank = 0; functions = 0; code_read = false; data_count = None; data_read = false; locals = 0; all_locals = 0 }

abbrev pub at_first : List ℕ → At
at_first bytes = record { place = 0; left = bytes; counts = no_counts }

-- a module is expected
abbrev pub start_of : List ℕ → State
start_of bytes = state (at_first bytes) [] (
    exactly 0x00 cause.BadMagic ∷ exactly 0x61 cause.BadMagic ∷ exactly 0x73 cause.BadMagic ∷ exactly 0x6D cause.BadMagic
    ∷ exactly 0x01 cause.BadVersion ∷ exactly 0x00 cause.BadVersion ∷ exactly 0x00 cause.BadVersion ∷ exactly 0x00 cause.BadVersion
    ∷ section ∷ [])

-- the first fault of the bytes: the machine comes to a field that is not spelled
abbrev pub Upto : List ℕ → ReadFault → Type 0
Upto bytes fault = (n : ℕ) × (after n (start_of bytes) ≡ Err fault)
