-- The entries of sections: with some places they are the same but for places.
use Rattle.wasm_writing.proofs.Common.{ℕ, ◌+◌, List, [], ◌∷◌, map, length, nat_eq, nat_le, Some, None, Option, refl, ap, ◌∙◌, ValType}
use Rattle.wasm_writing.proofs.Common.{BodyEntry, ElementEntry, Export, FuncEntry, FuncRef, GlobalEntry, Import, ImportKind, Limits}
use Rattle.wasm_writing.proofs.Common.{LimitsEntry, Run, SegmentEntry, Start, TypeEntry, Fields, number, provided, most_all_locals}
use Rattle.wasm_writing.proofs.Common.{most_blocks, most_locals, most_memory_pages, most_name_bytes, most_parameters, most_results}
use Rattle.wasm_writing.proofs.Common.{most_table_elements, bodies, code_fields, element_entry, end_byte, export_code, export_entry}
use Rattle.wasm_writing.proofs.Common.{func_entry, func_ref, func_type, global_entry, import_entry, import_kind, limits, limits_from}
use Rattle.wasm_writing.proofs.Common.{locals_of, memory_entry, mutability_code, name, results, runs, segment_entry, short_vector}
use Rattle.wasm_writing.proofs.Common.{start_entry, table_entry, table_type, type_code, type_entry, value_type, bare_body, bare_code}
use Rattle.wasm_writing.proofs.Common.{bare_element, bare_export, bare_func, bare_func_ref, bare_global, bare_import, bare_import_kind}
use Rattle.wasm_writing.proofs.Common.{bare_limits, bare_limits_entry, bare_segment, bare_type, body_content}
use Rattle.std.specs.Str.{is_utf8}
use Rattle.w2c_base.specs.declared.signature.FuncType.{FuncType}
use Rattle.wasm_tree.specs.declared.entries.ImportKind.TheVariants as imported
use Rattle.wasm_writing.proofs.Fills.{Fills, Keeps, Like, Likes, fills_after, fills_as, fills_before, fills_both, fills_here, fills_none}
use Rattle.wasm_writing.proofs.Fills.{fills_vector, fills_window, keeps_both, keeps_byte, keeps_each, keeps_none, keeps_number}
use Rattle.wasm_writing.proofs.Fills.{keeps_provided, keeps_text, likes_more}
use Rattle.wasm_writing.proofs.FillsCode.{fills_code, fills_expression}

-- ---- names and types

pub keeps_name : (t : List ℕ) → Keeps (name t)
keeps_name t =
    keeps_both (keeps_number (length t)) (keeps_both (keeps_provided (nat_le (length t) most_name_bytes))
    (keeps_both (keeps_text t) (keeps_provided (is_utf8 t))))

pub keeps_value_type : (t : ValType) → Keeps (value_type t)
keeps_value_type t = keeps_byte (type_code t)

pub keeps_short : {A : Type 0} (most : ℕ) {fields : A → Fields → Fields} → ((v : A) → Keeps (fields v)) → (vs : List A)
    → Keeps (short_vector most fields vs)
keeps_short most h vs =
    keeps_both (keeps_number (length vs)) (keeps_both (keeps_provided (nat_le (length vs) most)) (keeps_each h vs))

pub keeps_func_type : (t : FuncType) → Keeps (func_type t)
keeps_func_type t =
    keeps_both (keeps_byte 0x60) (keeps_both (keeps_short most_parameters keeps_value_type t.params)
    (keeps_short most_results keeps_value_type (results t.result)))

pub fills_type : (t : TypeEntry) → Fills {R = Like bare_type t} (type_entry t) (λ r. type_entry r.0)
fills_type t = fills_as (λ r. (record t { place = r.0 }, refl)) (λ r x. refl) (fills_here (keeps_func_type t.ty))

pub keeps_limits : (most min : ℕ) (max : Option ℕ) → Keeps (limits_from most min max)
keeps_limits most min None = keeps_both (keeps_byte 0x00) (keeps_both (keeps_number min) (keeps_provided (nat_le min most)))
keeps_limits most min (Some max) =
    keeps_both (keeps_byte 0x01) (keeps_both (keeps_number min) (keeps_both (keeps_provided (nat_le min most)) (keeps_number max)))

fills_limits : (most : ℕ) (l : Limits) → Fills {R = Like bare_limits l} (limits most l) (λ r. limits most r.0)
fills_limits most l = fills_as (λ r. (record l { place = r.0 }, refl)) (λ r x. refl) (fills_here (keeps_limits most l.min l.max))

fills_table_type : (l : Limits) → Fills {R = Like bare_limits l} (table_type l) (λ r. table_type r.0)
fills_table_type l = fills_after (keeps_byte 0x70) (fills_limits most_table_elements l)

-- ---- entries

-- the kind's code, and from a place on what is imported
fills_import_kind : (k : ImportKind) (place : ℕ)
    → Fills {R = ℕ × Like bare_import_kind k} (import_kind k place) (λ r. import_kind r.1.0 r.0)
fills_import_kind (imported.Func i) place =
    fills_as (λ r. (r.0, (imported.Func i, refl))) (λ r x. refl) (fills_after (keeps_byte 0x00) (fills_here (keeps_number i)))
fills_import_kind (imported.Table l) place =
    fills_as (λ r. (r.0, (imported.Table r.1.0, ap imported.Table r.1.1))) (λ r x. refl)
    (fills_after (keeps_byte 0x01) (fills_here (fills_table_type l)))
fills_import_kind (imported.Memory l) place =
    fills_as (λ r. (r.0, (imported.Memory r.1.0, ap imported.Memory r.1.1))) (λ r x. refl)
    (fills_after (keeps_byte 0x02) (fills_here (fills_limits most_memory_pages l)))
fills_import_kind (imported.Global t m) place =
    fills_as (λ r. (r.0, (imported.Global t m, refl))) (λ r x. refl)
    (fills_after (keeps_byte 0x03) (fills_here (keeps_both (keeps_value_type t) (keeps_byte (mutability_code m)))))

pub fills_import : (i : Import) → Fills {R = Like bare_import i} (import_entry i) (λ r. import_entry r.0)
fills_import i =
    fills_as (λ r. (record i { kind = r.1.0; place = r.0 }, ap (λ k. record i { kind = k; place = 0 }) r.1.1)) (λ r x. refl)
    (fills_after (keeps_name i.«module») (fills_after (keeps_name i.field) (fills_import_kind i.kind i.place)))

pub fills_func : (f : FuncEntry) → Fills {R = Like bare_func f} (func_entry f) (λ r. func_entry r.0)
fills_func f = fills_as (λ r. (record f { place = r.0 }, refl)) (λ r x. refl) (fills_here (keeps_number f.type_index))

pub fills_table : (t : LimitsEntry) → Fills {R = Like bare_limits_entry t} (table_entry t) (λ r. table_entry r.0)
fills_table t =
    fills_as (λ r. (record { limits = r.1.0; place = r.0 }, ap (λ l. record { limits = l; place = 0 }) r.1.1)) (λ r x. refl)
    (fills_here (fills_table_type t.limits))

pub fills_memory : (m : LimitsEntry) → Fills {R = Like bare_limits_entry m} (memory_entry m) (λ r. memory_entry r.0)
fills_memory m =
    fills_as (λ r. (record { limits = r.1.0; place = r.0 }, ap (λ l. record { limits = l; place = 0 }) r.1.1)) (λ r x. refl)
    (fills_here (fills_limits most_memory_pages m.limits))

pub fills_global : (g : GlobalEntry) → Fills {R = Like bare_global g} (global_entry g) (λ r. global_entry r.0)
fills_global g =
    fills_as (λ r. (record g { code = r.1.0; place = r.0 }, ap (λ c. record g { code = c; place = 0 }) r.1.1)) (λ r x. refl)
    (fills_after (keeps_value_type g.ty) (fills_after (keeps_byte (mutability_code g.mutable)) (fills_here (fills_expression g.code))))

pub fills_export : (e : Export) → Fills {R = Like bare_export e} (export_entry e) (λ r. export_entry r.0)
fills_export e =
    fills_as (λ r. (record e { name_place = r.0; index_place = r.1.0 }, refl)) (λ r x. refl)
    (fills_here (fills_after (keeps_name e.name) (fills_after (keeps_byte (export_code e.kind)) (fills_here (keeps_number e.index)))))

pub fills_start : (s : Start) → Fills {R = ℕ × Unit {0}} (start_entry s) (λ r. start_entry (record s { place = r.0 }))
fills_start s = fills_here (keeps_number s.index)

-- a number that must be another one
pub keeps_data_count : (count found : ℕ) → Keeps (λ x. number count (provided (nat_eq count found) x))
keeps_data_count count found = keeps_both (keeps_number count) (keeps_provided (nat_eq count found))

pub fills_func_ref : (f : FuncRef) → Fills {R = Like bare_func_ref f} (func_ref f) (λ r. func_ref r.0)
fills_func_ref f = fills_as (λ r. (record f { place = r.0 }, refl)) (λ r x. refl) (fills_here (keeps_number f.index))

pub fills_element : (e : ElementEntry) → Fills {R = Like bare_element e} (element_entry e) (λ r. element_entry r.0)
fills_element e =
    fills_as made (λ r x. refl)
    (fills_here (fills_after (keeps_number e.table) (fills_here
    (fills_both (fills_expression e.offset) (fills_vector bare_func_ref fills_func_ref e.funcs)))))
  where
    made : ℕ × (ℕ × (Like bare_code e.offset × Likes bare_func_ref e.funcs)) → Like bare_element e
    made r = (
      record e { offset = r.1.1.0.0; funcs = r.1.1.1.0; place = r.0; offset_place = r.1.0 },
      ap (λ c. record e { offset = c; funcs = map bare_func_ref r.1.1.1.0; place = 0; offset_place = 0 }) r.1.1.0.1
          ∙ ap (λ l. record e { offset = bare_code e.offset; funcs = l; place = 0; offset_place = 0 }) r.1.1.1.1,
    )

pub fills_segment : (s : SegmentEntry) → Fills {R = Like bare_segment s} (segment_entry s) (λ r. segment_entry r.0)
fills_segment s =
    fills_as
    (λ r. (
      record s { offset = r.1.1.0; place = r.0; offset_place = r.1.0 },
      ap (λ c. record s { offset = c; place = 0; offset_place = 0 }) r.1.1.1,
    )) (λ r x. refl)
    (fills_here (fills_after (keeps_number s.memory) (fills_here
    (fills_before (fills_expression s.offset) (keeps_both (keeps_number (length s.bytes)) (keeps_text s.bytes))))))

-- ---- bodies

pub keeps_runs : (l a : ℕ) (rs : List Run) → Keeps (runs l a rs)
keeps_runs l a [] = keeps_none
keeps_runs l a (r ∷ rs) =
    keeps_both (keeps_number r.count) (keeps_both (keeps_provided (nat_le (l + r.count) most_locals))
    (keeps_both (keeps_provided (nat_le (a + r.count) most_all_locals))
    (keeps_both (keeps_value_type r.ty) (keeps_runs (l + r.count) (a + r.count) rs))))

fills_content : (a : ℕ) (b : BodyEntry)
    → Fills {R = Like bare_code b.code × ℕ} (body_content a b) (λ r. body_content a (record b { code = r.0.0; end_place = r.1 }))
fills_content a b =
    fills_after (keeps_number (length b.runs)) (fills_after (keeps_runs 0 a b.runs)
    (fills_as {g' = λ r x. code_fields most_blocks r.0.0 (end_byte r.1 x)} (λ r. (r.0, r.1.0)) (λ r x. refl)
    (fills_both (fills_code most_blocks b.code) (fills_here (keeps_byte 0x0B)))))

pub fills_bodies : (a : ℕ) (bs : List BodyEntry) → Fills {R = Likes bare_body bs} (bodies a bs) (λ r. bodies a r.0)
unfolding likes_more
fills_bodies a [] = fills_none _ ([], refl, refl) (λ x. refl)
fills_bodies a (b ∷ bs) =
    fills_as made (λ r x. refl) (fills_both (fills_window (fills_content a b)) (fills_bodies (a + locals_of b.runs) bs))
  where
    made : (Like bare_code b.code × ℕ) × Likes bare_body bs → Likes bare_body (b ∷ bs)
    made r =
        likes_more bare_body b bs (
          (record b { code = r.0.0.0; end_place = r.0.1 }, ap (λ c. record b { code = c; end_place = 0 }) r.0.0.1),
          r.1,
        )
