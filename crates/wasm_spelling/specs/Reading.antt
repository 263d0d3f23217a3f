-- Reading from left to right: the value that stands at a place, or the first fault. No public contract names
-- these functions; the reader's are proved by them.
use Rattle.std.specs.Prelude.{ℕ, zero, suc, ◌+◌, List, [], ◌∷◌, length, take, drop, Bool, true, false, Option, Some, None, Result, Ok, Err}
use Rattle.std.specs.Prelude.{nat_lt, ◌==◌, if◌then◌else◌}
use Rattle.w2c_base.specs.declared.value.ValType.{ValType}
use Rattle.w2c_base.specs.declared.signature.FuncType.{FuncType}
use Rattle.wasm_tree.specs.declared.code.MemArg.{MemArg}
use Rattle.wasm_tree.specs.declared.entries.TypeEntry.{TypeEntry}
use Rattle.wasm_tree.specs.declared.entries.Limits.{Limits}
use Rattle.wasm_tree.specs.declared.entries.ImportKind.{ImportKind}
use Rattle.wasm_tree.specs.declared.entries.ImportKind.TheVariants as imported
use Rattle.wasm_tree.specs.declared.entries.Import.{Import}
use Rattle.wasm_tree.specs.declared.entries.FuncEntry.{FuncEntry}
use Rattle.wasm_tree.specs.declared.entries.LimitsEntry.{LimitsEntry}
use Rattle.wasm_tree.specs.declared.entries.GlobalEntry.{GlobalEntry}
use Rattle.wasm_tree.specs.declared.entries.ExportKind.{ExportKind}
use Rattle.wasm_tree.specs.declared.entries.ExportKind.TheVariants as kind
use Rattle.wasm_tree.specs.declared.entries.Export.{Export}
use Rattle.wasm_tree.specs.declared.entries.Start.{Start}
use Rattle.wasm_tree.specs.declared.entries.DataCount.{DataCount}
use Rattle.wasm_tree.specs.declared.entries.FuncRef.{FuncRef}
use Rattle.wasm_tree.specs.declared.entries.ElementEntry.{ElementEntry}
use Rattle.wasm_tree.specs.declared.entries.SegmentEntry.{SegmentEntry}
use Rattle.wasm_tree.specs.declared.entries.Run.{Run}
use Rattle.wasm_tree.specs.declared.entries.BodyEntry.{BodyEntry}
use Rattle.wasm_tree.specs.declared.tree.Module.{Module}
use Rattle.wasm_tree.specs.Instructions.{Code, end_code, then_code, Kind, no_else, else_code, Block, Loop, If}
use Rattle.wasm_tree.specs.InstructionTable.{Form, nothing, an_index, a_mem_arg, labels, a_type, a_zero, an_i32, an_i64, a_sub_opcode}
use Rattle.wasm_tree.specs.Limits.{most_name_bytes, most_blocks, most_memory_pages, most_table_elements}
use Rattle.wasm_spelling.specs.declared.fault.ReadFault.{ReadFault}
use Rattle.wasm_spelling.specs.declared.fault.ReadFault.TheVariants.{Limit}
use Rattle.wasm_spelling.specs.declared.fault.Cause.{Cause}
use Rattle.wasm_spelling.specs.declared.fault.Cause.TheVariants as cause
use Rattle.wasm_spelling.specs.declared.fault.Which.{Which}
use Rattle.wasm_spelling.specs.declared.fault.Which.TheVariants as which
use Rattle.wasm_spelling.specs.At.{At}
use Rattle.wasm_spelling.specs.ModuleFields.{Part, types, imports, functions, tables, memories, globals, exports, start, elements}
use Rattle.wasm_spelling.specs.ModuleFields.{data_count, code, segments}
use Rattle.wasm_spelling.specs.Steps.{◌>>=◌, malformed, Reader, done, reads, checked, byte_at, number_at, signed32_at, signed64_at}
use Rattle.wasm_spelling.specs.Steps.{bytes_at, rest_at, exactly, within, utf8_of, type_of, block_type_of, flag_of, kind_of, zero_of, Head}
use Rattle.wasm_spelling.specs.Steps.{the_end, the_else, a_block, a_loop, a_form, head_of, run_count_at, body_count_at, data_count_at}
use Rattle.wasm_spelling.specs.Steps.{sub_opcode_of, SectionId, no_section, a_custom, a_part, section_id_at}
use Rattle.wasm_spelling.specs.Table.{Entry, of_types, of_parameters, of_results, of_imports, of_functions, of_tables, of_memories}
use Rattle.wasm_spelling.specs.Table.{of_globals, of_exports, of_elements, of_segments, of_indexes, of_runs, count_at, at_first}

abbrev pub place_at : Reader ℕ
place_at a = Ok (a.place, a)

unfoldable pub times_at : {A : Type 0} → Reader A → ℕ → Reader (List A)
times_at one zero a = Ok ([], a)
times_at one (suc n) a = one a >>= λ x. times_at one n x.1 >>= λ xs. Ok (x.0 ∷ xs.0, xs.1)

abbrev pub vector_at : {A : Type 0} → Entry → Reader A → Reader (List A)
vector_at entry one = reads (count_at entry) (times_at one)

-- ---- windows

-- the window is used up, and reading goes on behind it, with the counts from inside
abbrev pub ended : {A : Type 0} → Cause → ℕ → List ℕ → A × At → Result (A × At) ReadFault
ended c place left x = if length x.1.left == 0 then Ok (x.0, record x.1 { place = place; left = left }) else malformed x.1.place c

abbrev pub inside_at : {A : Type 0} → Cause → Reader A → ℕ → ℕ → At → Result (A × At) ReadFault
inside_at c read place n a =
    if nat_lt (length a.left) n then malformed place cause.SizePastEnd
    else (read (record a { left = take n a.left }) >>= ended c (a.place + n) (drop n a.left))

-- a size, and a window of so many bytes
unfoldable pub window_at : {A : Type 0} → Cause → Reader A → Reader A
window_at c read a = number_at a >>= λ n. inside_at c read a.place n.0 n.1

-- ---- single fields

unfoldable pub exactly_at : ℕ → Cause → Reader (Unit {0})
exactly_at b c = checked byte_at (exactly b c)

unfoldable pub type_at : Reader ValType
type_at = checked byte_at type_of

unfoldable pub block_type_at : Reader (Option ValType)
block_type_at = checked byte_at block_type_of

unfoldable pub mutability_at : Reader Bool
mutability_at = checked byte_at (flag_of cause.BadMutability)

unfoldable pub flag_at : Reader Bool
flag_at = checked byte_at (flag_of cause.BadLimitsFlag)

unfoldable pub kind_at : Reader ExportKind
kind_at = checked byte_at kind_of

unfoldable pub zero_at : Reader (Unit {0})
zero_at = checked number_at zero_of

unfoldable pub utf8_at : ℕ → Reader (List ℕ)
utf8_at n = checked (bytes_at n) utf8_of

unfoldable pub limited_at : ℕ → Which → Reader ℕ
limited_at most w = checked number_at (within most w)

unfoldable pub any_name_at : Reader (List ℕ)
any_name_at = reads number_at utf8_at

unfoldable pub name_at : Reader (List ℕ)
name_at = reads (checked number_at (within most_name_bytes which.NameLength)) utf8_at

unfoldable pub counted_bytes_at : Reader (List ℕ)
counted_bytes_at = reads number_at bytes_at

-- ---- types

abbrev pub first_of_results : List ValType → Option ValType
first_of_results [] = None
first_of_results (t ∷ ts) = Some t

unfoldable pub func_type_at : Reader FuncType
func_type_at =
    reads (exactly_at 0x60 cause.BadForm) (λ u.
    reads (vector_at of_parameters type_at) (λ params.
    reads (vector_at of_results type_at) (λ results.
    done (record { params = params; result = first_of_results results }))))

-- the greatest size, where the flag says that one is there
unfoldable pub maximum_at : Bool → Reader (Option ℕ)
maximum_at false = done None
maximum_at true = reads number_at (λ max. done (Some max))

unfoldable pub limits_at : ℕ → Which → Reader Limits
limits_at most w =
    reads place_at (λ place.
    reads flag_at (λ flag.
    reads (limited_at most w) (λ min.
    reads (maximum_at flag) (λ max.
    done (record { min = min; max = max; place = place })))))

unfoldable pub memory_type_at : Reader Limits
memory_type_at = limits_at most_memory_pages which.MemoryPages

unfoldable pub table_type_at : Reader Limits
table_type_at = reads (exactly_at 0x70 cause.BadElementType) (λ u. limits_at most_table_elements which.TableLength)

-- ---- instructions

unfoldable pub mem_arg_at : Reader MemArg
mem_arg_at = reads number_at (λ align. reads number_at (λ offset. done (record { align = align; offset = offset })))

unfoldable pub form_at : Form → Reader Kind
form_at (nothing kind) = done kind
form_at (an_index make) = reads number_at (λ n. done (make n))
form_at (a_mem_arg make) = reads mem_arg_at (λ arg. done (make arg))
form_at (labels make) = reads (vector_at of_indexes number_at) (λ ls. reads number_at (λ default. done (make ls default)))
form_at (a_type make) = reads number_at (λ n. reads zero_at (λ u. done (make n)))
form_at (a_zero kind) = reads (exactly_at 0x00 cause.ZeroByteExpected) (λ u. done kind)
form_at (an_i32 make) = reads signed32_at (λ n. done (make n))
form_at (an_i64 make) = reads signed64_at (λ n. done (make n))
form_at a_sub_opcode = reads (checked number_at sub_opcode_of) (λ r.
    reads (times_at (exactly_at 0x00 cause.ZeroByteExpected) r.zeros) (λ us. done r.kind))

-- what closes instructions, with its place
pub data Ender : Type 0 where
  by_end by_else : (place : ℕ) → Ender

abbrev pub ender_place : Ender → ℕ
ender_place (by_end place) = place
ender_place (by_else place) = place

-- one more instruction, or what closes them
pub data Item : Type 0 where
  closed : Ender → Item
  one : (place : ℕ) → Kind → Item

abbrev pub as_one : ℕ → Kind → Reader Item
as_one place k = done (one place k)

-- what an opcode at a place begins; inner reads what stands behind a block's opcode
abbrev pub item_of : (Head → Reader Kind) → ℕ → Head → Reader Item
item_of inner place the_end = done (closed (by_end place))
item_of inner place the_else = done (closed (by_else place))
item_of inner place (a_form form) = reads (form_at form) (as_one place)
item_of inner place head = reads (inner head) (as_one place)

unfoldable pub item_at : ℕ → Bool → (Head → Reader Kind) → Reader Item
item_at room may_else inner = reads place_at (λ place. reads (checked byte_at (head_of room may_else)) (item_of inner place))

abbrev pub put_before : ℕ → Kind → Code × Ender → Reader (Code × Ender)
put_before place k c = done (then_code place k c.0, c.1)

abbrev pub after_item : Reader (Code × Ender) → Item → Reader (Code × Ender)
after_item more (closed ender) = done (end_code, ender)
after_item more (one place k) = reads more (put_before place k)

-- fewer than k instructions, and what closes them
unfoldable pub items_at : ℕ → Bool → (Head → Reader Kind) → ℕ → Reader (Code × Ender)
items_at room may_else inner zero a = malformed a.place cause.UnexpectedEnd
items_at room may_else inner (suc k) a = reads (item_at room may_else inner) (after_item (items_at room may_else inner k)) a

-- each takes a byte at least
abbrev pub all_items_at : ℕ → Bool → (Head → Reader Kind) → Reader (Code × Ender)
all_items_at room may_else inner a = items_at room may_else inner (suc (length a.left)) a

abbrev pub if_closed : Reader (Code × Ender) → Option ValType → Code × Ender → Reader Kind
if_closed other_at result (c, by_end place) = done (If result c no_else place)
if_closed other_at result (c, by_else place) =
    reads other_at (λ o. done (If result c (else_code place o.0) (ender_place o.1)))

abbrev pub block_of : (Bool → Reader (Code × Ender)) → Head → Reader Kind
block_of code_at a_block = reads block_type_at (λ result. reads (code_at false) (λ c. done (Block result c.0 (ender_place c.1))))
block_of code_at a_loop = reads block_type_at (λ result. reads (code_at false) (λ c. done (Loop result c.0 (ender_place c.1))))
block_of code_at head = reads block_type_at (λ result. reads (code_at true) (if_closed (code_at false) result))

-- what stands behind a block's opcode, where so many blocks may be opened with it
unfoldable pub block_at : ℕ → Head → Reader Kind
block_at zero head a = Err (Limit a.place which.BlockDepth)
block_at (suc room) head a = block_of (λ may_else. all_items_at room may_else (block_at room)) head a

abbrev pub code_at : ℕ → Bool → Reader (Code × Ender)
code_at room may_else = all_items_at room may_else (block_at room)

unfoldable pub expression_at : Reader Code
expression_at = reads (code_at most_blocks false) (λ c. done c.0)

-- ---- the entries of sections

unfoldable pub type_entry_at : Reader TypeEntry
type_entry_at = reads place_at (λ place. reads func_type_at (λ ty. done (record { place = place; ty = ty })))

unfoldable pub import_kind_at : ExportKind → Reader ImportKind
import_kind_at kind.Func = reads number_at (λ n. done (imported.Func n))
import_kind_at kind.Table = reads table_type_at (λ l. done (imported.Table l))
import_kind_at kind.Memory = reads memory_type_at (λ l. done (imported.Memory l))
import_kind_at kind.Global = reads type_at (λ ty. reads mutability_at (λ mutable. done (imported.Global ty mutable)))

unfoldable pub import_at : Reader Import
import_at =
    reads name_at (λ m.
    reads name_at (λ field.
    reads kind_at (λ k.
    reads place_at (λ place.
    reads (import_kind_at k) (λ kind.
    done (record { «module» = m; field = field; kind = kind; place = place }))))))

unfoldable pub func_entry_at : Reader FuncEntry
func_entry_at = reads place_at (λ place. reads number_at (λ n. done (record { type_index = n; place = place })))

unfoldable pub table_entry_at : Reader LimitsEntry
table_entry_at = reads place_at (λ place. reads table_type_at (λ l. done (record { limits = l; place = place })))

unfoldable pub memory_entry_at : Reader LimitsEntry
memory_entry_at = reads place_at (λ place. reads memory_type_at (λ l. done (record { limits = l; place = place })))

unfoldable pub global_entry_at : Reader GlobalEntry
global_entry_at =
    reads type_at (λ ty.
    reads mutability_at (λ mutable.
    reads place_at (λ place.
    reads expression_at (λ code.
    done (record { ty = ty; mutable = mutable; code = code; place = place })))))

unfoldable pub export_entry_at : Reader Export
export_entry_at =
    reads place_at (λ name_place.
    reads name_at (λ name.
    reads kind_at (λ kind.
    reads place_at (λ index_place.
    reads number_at (λ index.
    done (record { name = name; kind = kind; index = index; name_place = name_place; index_place = index_place }))))))

unfoldable pub start_at : Reader Start
start_at = reads place_at (λ place. reads number_at (λ n. done (record { index = n; place = place })))

unfoldable pub data_count_entry_at : Reader DataCount
data_count_entry_at = reads place_at (λ place. reads data_count_at (λ n. done (record { count = n; place = place })))

unfoldable pub func_ref_at : Reader FuncRef
func_ref_at = reads place_at (λ place. reads number_at (λ n. done (record { index = n; place = place })))

unfoldable pub element_entry_at : Reader ElementEntry
element_entry_at =
    reads place_at (λ place.
    reads number_at (λ table.
    reads place_at (λ offset_place.
    reads expression_at (λ offset.
    reads (vector_at of_indexes func_ref_at) (λ funcs.
    done (record { table = table; offset = offset; funcs = funcs; place = place; offset_place = offset_place }))))))

unfoldable pub segment_entry_at : Reader SegmentEntry
segment_entry_at =
    reads place_at (λ place.
    reads number_at (λ memory.
    reads place_at (λ offset_place.
    reads expression_at (λ offset.
    reads counted_bytes_at (λ bytes.
    done (record { memory = memory; offset = offset; bytes = bytes; place = place; offset_place = offset_place }))))))

unfoldable pub run_at : Reader Run
run_at = reads run_count_at (λ count. reads type_at (λ ty. done (record { count = count; ty = ty })))

unfoldable pub body_content_at : Reader BodyEntry
body_content_at =
    reads (vector_at of_runs run_at) (λ runs.
    reads (code_at most_blocks false) (λ c.
    done (record { runs = runs; code = c.0; end_place = ender_place c.1 })))

unfoldable pub body_at : Reader BodyEntry
body_at = window_at cause.BodyNotUsedUp body_content_at

unfoldable pub bodies_at : Reader (List BodyEntry)
bodies_at = reads body_count_at (times_at body_at)

-- ---- sections

unfoldable pub content_at : Part → Module → Reader Module
content_at types t = reads (vector_at of_types type_entry_at) (λ x. done (record t { types = x }))
content_at imports t = reads (vector_at of_imports import_at) (λ x. done (record t { imports = x }))
content_at functions t = reads (vector_at of_functions func_entry_at) (λ x. done (record t { funcs = x }))
content_at tables t = reads (vector_at of_tables table_entry_at) (λ x. done (record t { tables = x }))
content_at memories t = reads (vector_at of_memories memory_entry_at) (λ x. done (record t { memories = x }))
content_at globals t = reads (vector_at of_globals global_entry_at) (λ x. done (record t { globals = x }))
content_at exports t = reads (vector_at of_exports export_entry_at) (λ x. done (record t { exports = x }))
content_at start t = reads start_at (λ x. done (record t { start = Some x }))
content_at elements t = reads (vector_at of_elements element_entry_at) (λ x. done (record t { elements = x }))
content_at data_count t = reads data_count_entry_at (λ x. done (record t { data_count = Some x }))
content_at code t = reads bodies_at (λ x. done (record t { bodies = x }))
content_at segments t = reads (vector_at of_segments segment_entry_at) (λ x. done (record t { segments = x }))

unfoldable pub custom_content_at : Module → Reader Module
custom_content_at t = reads any_name_at (λ name. reads rest_at (λ bytes. done t))

unfoldable pub part_at : Part → Module → Reader Module
part_at part t = window_at cause.SectionNotUsedUp (content_at part t)

unfoldable pub custom_at : Module → Reader Module
custom_at t = window_at cause.SectionNotUsedUp (custom_content_at t)

-- behind a section's id; more reads the sections after it
abbrev pub after_id : (Module → Reader Module) → Module → SectionId → Reader Module
after_id more t no_section = done t
after_id more t a_custom = reads (custom_at t) more
after_id more t (a_part part) = reads (part_at part t) more

-- fewer than k sections behind those of a module, up to the end of the file
unfoldable pub sections_at : ℕ → Module → Reader Module
sections_at zero t a = malformed a.place cause.UnexpectedEnd
sections_at (suc k) t a = reads section_id_at (after_id (sections_at k) t) a

abbrev pub all_sections_at : Module → Reader Module
all_sections_at t a = sections_at (suc (length a.left)) t a

abbrev pub no_module : Module
no_module =
    record {
      types = [];
      imports = [];
      funcs = [];
      tables = [];
      memories = [];
      globals = [];
      exports = [];
      start = None;
      elements = [];
      data_count = None;
      segments = [];
      bodies = [];
    }

unfoldable pub magic_at : Reader (Unit {0})
magic_at =
    reads (exactly_at 0x00 cause.BadMagic) (λ u.
    reads (exactly_at 0x61 cause.BadMagic) (λ u.
    reads (exactly_at 0x73 cause.BadMagic) (λ u.
    exactly_at 0x6D cause.BadMagic)))

unfoldable pub version_at : Reader (Unit {0})
version_at =
    reads (exactly_at 0x01 cause.BadVersion) (λ u.
    reads (exactly_at 0x00 cause.BadVersion) (λ u.
    reads (exactly_at 0x00 cause.BadVersion) (λ u.
    exactly_at 0x00 cause.BadVersion)))

unfoldable pub module_at : List ℕ → Result (Module × At) ReadFault
module_at bytes = reads magic_at (λ u. reads version_at (λ u. all_sections_at no_module)) (at_first bytes)

abbrev pub tree_of : Module × At → Result Module ReadFault
tree_of x = Ok x.0

-- the module of a file's bytes, or their first fault
unfoldable pub file_at : List ℕ → Result Module ReadFault
file_at bytes = module_at bytes >>= tree_of
