-- Instructions and entries, and the same with every place 0: the same bytes spell both with the places aside.
use Rattle.wasm_writing.proofs.Common.{ℕ, ◌+◌, ◌-◌, List, [], ◌∷◌, map, length, Option, ValType, opcode_of, Block, Code, If, Loop}
use Rattle.wasm_writing.proofs.Common.{else_code, end_code, no_else, then_code, BodyEntry, ElementEntry, Export, FuncEntry, FuncRef}
use Rattle.wasm_writing.proofs.Common.{GlobalEntry, Import, ImportKind, Limits, LimitsEntry, SegmentEntry, TypeEntry, byte, here, number}
use Rattle.wasm_writing.proofs.Common.{most_blocks, most_memory_pages, most_table_elements, bodies, code_fields, element_entry, end_byte}
use Rattle.wasm_writing.proofs.Common.{export_code, export_entry, expression, func_entry, func_ref, global_entry, import_entry, import_kind}
use Rattle.wasm_writing.proofs.Common.{limits, locals_of, memory_entry, mutability_code, name, runs, segment_entry, table_entry, table_type}
use Rattle.wasm_writing.proofs.Common.{type_entry, bare_body, bare_code, bare_element, bare_export, bare_func, bare_func_ref, bare_global}
use Rattle.wasm_writing.proofs.Common.{bare_import, bare_import_kind, bare_limits, bare_limits_entry, bare_segment, bare_type, body_content}
use Rattle.wasm_tree.specs.declared.entries.ImportKind.TheVariants as imported
use Rattle.wasm_writing.proofs.Fills.{keeps_both, keeps_byte, keeps_number, keeps_text}
use Rattle.wasm_writing.proofs.FillsCode.{head, keeps_head, keeps_immediates}
use Rattle.wasm_writing.proofs.FillsEntries.{keeps_func_type, keeps_limits, keeps_name, keeps_runs, keeps_value_type}
use Rattle.wasm_writing.proofs.Both.{Both, both_here, both_none, both_self, both_then, both_vector, both_window}

both_byte : (b : ℕ) → Both (byte b) (byte b)
both_byte b = both_self (keeps_byte b)

both_number : (n : ℕ) → Both (number n) (number n)
both_number n = both_self (keeps_number n)

-- ---- instructions

both_closed : (e room : ℕ) (c : Code) → Both (code_fields room c) (code_fields room (bare_code c))
    → Both (λ x. end_byte e (code_fields room c x)) (λ x. end_byte 0 (code_fields room (bare_code c) x))
both_closed e room c h = both_here (both_then (both_byte 0x0B) h)

-- a block of one piece of code, and the code behind it
both_one : (place room opcode : ℕ) (ty : Option ValType) (b : Code) (e : ℕ) (c : Code)
    → Both (code_fields (room - 1) b) (code_fields (room - 1) (bare_code b)) → Both (code_fields room c) (code_fields room (bare_code c))
    → Both (λ x. here place (head room opcode ty (code_fields (room - 1) b (end_byte e (code_fields room c x)))))
    (λ x. here 0 (head room opcode ty (code_fields (room - 1) (bare_code b) (end_byte 0 (code_fields room (bare_code c) x)))))
both_one place room opcode ty b e c h k =
    both_here (both_then (both_self (keeps_head room opcode ty)) (both_then h (both_closed e room c k)))

-- an if with both branches, and the code behind it
both_two : (place room : ℕ) (ty : Option ValType) (b : Code) (q : ℕ) (d : Code) (e : ℕ) (c : Code)
    → Both (code_fields (room - 1) b) (code_fields (room - 1) (bare_code b))
    → Both (code_fields (room - 1) d) (code_fields (room - 1) (bare_code d)) → Both (code_fields room c) (code_fields room (bare_code c))
    → Both (λ x. here place
    (head room 0x04 ty (code_fields (room - 1) b (here q (byte 0x05 (code_fields (room - 1) d (end_byte e (code_fields room c x))))))))
    (λ x. here 0
    (head room 0x04 ty (code_fields (room - 1) (bare_code b)
    (here 0 (byte 0x05 (code_fields (room - 1) (bare_code d) (end_byte 0 (code_fields room (bare_code c) x))))))))
both_two place room ty b q d e c h i k =
    both_here (both_then (both_self (keeps_head room 0x04 ty))
    (both_then h (both_here (both_then (both_byte 0x05) (both_then i (both_closed e room c k))))))

both_code : (room : ℕ) (c : Code) → Both (code_fields room c) (code_fields room (bare_code c))
unfolding head
both_code room end_code = both_none
both_code room (then_code place (Block ty b e) c) = both_one place room 0x02 ty b e c (both_code (room - 1) b) (both_code room c)
both_code room (then_code place (Loop ty b e) c) = both_one place room 0x03 ty b e c (both_code (room - 1) b) (both_code room c)
both_code room (then_code place (If ty b no_else e) c) = both_one place room 0x04 ty b e c (both_code (room - 1) b) (both_code room c)
both_code room (then_code place (If ty b (else_code q d) e) c) =
    both_two place room ty b q d e c (both_code (room - 1) b) (both_code (room - 1) d) (both_code room c)
both_code room (then_code place k c) =
    both_here (both_then (both_byte (opcode_of k)) (both_then (both_self (keeps_immediates k)) (both_code room c)))

both_expression : (c : Code) → Both (expression c) (expression (bare_code c))
both_expression c = both_then (both_code most_blocks c) (both_byte 0x0B)

-- ---- entries

pub both_type : (t : TypeEntry) → Both (type_entry t) (type_entry (bare_type t))
both_type t = both_here (both_self (keeps_func_type t.ty))

both_limits : (most : ℕ) (l : Limits) → Both (limits most l) (limits most (bare_limits l))
both_limits most l = both_here (both_self (keeps_limits most l.min l.max))

both_table_type : (l : Limits) → Both (table_type l) (table_type (bare_limits l))
both_table_type l = both_then (both_byte 0x70) (both_limits most_table_elements l)

both_import_kind : (k : ImportKind) (place : ℕ) → Both (import_kind k place) (import_kind (bare_import_kind k) 0)
both_import_kind (imported.Func i) place = both_then (both_byte 0x00) (both_here (both_number i))
both_import_kind (imported.Table l) place = both_then (both_byte 0x01) (both_here (both_table_type l))
both_import_kind (imported.Memory l) place = both_then (both_byte 0x02) (both_here (both_limits most_memory_pages l))
both_import_kind (imported.Global t m) place =
    both_then (both_byte 0x03) (both_here (both_self (keeps_both (keeps_value_type t) (keeps_byte (mutability_code m)))))

both_name : (t : List ℕ) → Both (name t) (name t)
both_name t = both_self (keeps_name t)

pub both_import : (i : Import) → Both (import_entry i) (import_entry (bare_import i))
both_import i = both_then (both_name i.«module») (both_then (both_name i.field) (both_import_kind i.kind i.place))

pub both_func : (f : FuncEntry) → Both (func_entry f) (func_entry (bare_func f))
both_func f = both_here (both_number f.type_index)

pub both_table : (t : LimitsEntry) → Both (table_entry t) (table_entry (bare_limits_entry t))
both_table t = both_here (both_table_type t.limits)

pub both_memory : (m : LimitsEntry) → Both (memory_entry m) (memory_entry (bare_limits_entry m))
both_memory m = both_here (both_limits most_memory_pages m.limits)

pub both_global : (g : GlobalEntry) → Both (global_entry g) (global_entry (bare_global g))
both_global g =
    both_then (both_self (keeps_value_type g.ty))
    (both_then (both_byte (mutability_code g.mutable)) (both_here (both_expression g.code)))

pub both_export : (e : Export) → Both (export_entry e) (export_entry (bare_export e))
both_export e = both_here (both_then (both_name e.name) (both_then (both_byte (export_code e.kind)) (both_here (both_number e.index))))

both_func_ref : (f : FuncRef) → Both (func_ref f) (func_ref (bare_func_ref f))
both_func_ref f = both_here (both_number f.index)

pub both_element : (e : ElementEntry) → Both (element_entry e) (element_entry (bare_element e))
both_element e =
    both_here (both_then (both_number e.table) (both_here
    (both_then (both_expression e.offset) (both_vector bare_func_ref both_func_ref e.funcs))))

pub both_segment : (s : SegmentEntry) → Both (segment_entry s) (segment_entry (bare_segment s))
both_segment s =
    both_here (both_then (both_number s.memory) (both_here (both_then (both_expression s.offset)
    (both_self (keeps_both (keeps_number (length s.bytes)) (keeps_text s.bytes))))))

-- ---- bodies

both_content : (a : ℕ) (b : BodyEntry) → Both (body_content a b) (body_content a (bare_body b))
both_content a b =
    both_then (both_number (length b.runs)) (both_then (both_self (keeps_runs 0 a b.runs))
    (both_then (both_code most_blocks b.code) (both_here (both_byte 0x0B))))

pub both_bodies : (a : ℕ) (bs : List BodyEntry) → Both (bodies a bs) (bodies a (map bare_body bs))
both_bodies a [] = both_none
both_bodies a (b ∷ bs) = both_then (both_window (both_content a b)) (both_bodies (a + locals_of b.runs) bs)
