-- A module that is spelled keeps within the limits, part by part.
use Rattle.wasm_spelling.proofs.Common.{◌≡◌, ℕ, suc, ◌+◌, ◌≤◌, true, eqb, ◌⊎◌, List, [], ◌∷◌, length, replicate, nat_le, Some, None, Option}
use Rattle.wasm_spelling.proofs.Common.{sym, refl, ap, ◌∙◌, inl, inr, arith, length-append, eqb-true, leb-true, length-replicate}
use Rattle.wasm_spelling.proofs.Common.{AllByRecursion, is_utf8, declared_locals, Code, BodyEntry, ElementEntry, Export, Import, ImportKind}
use Rattle.wasm_spelling.proofs.Common.{Limits, LimitsEntry, Run, TypeEntry, Module, AreBytes, Fields, byte, finished, here, number}
use Rattle.wasm_spelling.proofs.Common.{provided, text, window, most_all_locals, most_blocks, most_functions, most_locals}
use Rattle.wasm_spelling.proofs.Common.{most_memory_pages, most_module_bytes, most_name_bytes, most_parameters, most_results}
use Rattle.wasm_spelling.proofs.Common.{most_table_elements, Part, Spells, any_name, bodies, code_fields, content, custom, customs, each}
use Rattle.wasm_spelling.proofs.Common.{element_entry, end_byte, export_code, export_entry, expression, func_entry, func_ref, func_type}
use Rattle.wasm_spelling.proofs.Common.{global_entry, id_of, import_entry, import_kind, is_empty, limits, limits_from, locals_of}
use Rattle.wasm_spelling.proofs.Common.{memory_entry, module_fields, mutability_code, name, parts, results, runs, section, sections}
use Rattle.wasm_spelling.proofs.Common.{segment_entry, short_vector, table_entry, type_code, type_entry, utf8, value_type, vector}
use Rattle.wasm_spelling.proofs.Common.{BodyIsWithin, IsMaximum, IsName, least_bytes}
use Rattle.std.specs.Prelude.{⊤}
use Rattle.wasm_tree.specs.declared.entries.ImportKind.TheVariants as imported
use Rattle.wasm_tree.specs.declared.entries.SegmentEntry.{SegmentEntry}
use Rattle.wasm_spelling.specs.ModuleFields as of
use Rattle.wasm_spelling.proofs.Behind.{Behind, behind_fewer, past_byte, past_number, past_text, past_here, past_provided, past_window}
use Rattle.wasm_spelling.proofs.Behind.{past_either, past_some, within_file}
use Rattle.wasm_spelling.proofs.WithinCode.{Tells, each_within, code_within}

-- ---- vectors and names

vector_within : {A : Type 0} (entry : A → Fields → Fields) (P : A → Type 0) → Tells entry P
    → (vs : List A) (rest : Fields) (taken : ℕ) → Behind taken (vector entry vs rest)
    → AllByRecursion P vs × Behind (taken + length vs) rest
vector_within entry P one vs rest taken h =
    let e = each_within entry P one vs rest (taken + 1) (past_number taken (length vs) (each entry vs rest) h).1 in
    (e.0, behind_fewer (taken + 1 + length vs) (taken + length vs) rest (omega arith) e.1)

short_within : {A : Type 0} (most : ℕ) (entry : A → Fields → Fields) (P : A → Type 0) → Tells entry P
    → (vs : List A) (rest : Fields) (taken : ℕ) → Behind taken (short_vector most entry vs rest)
    → (length vs ≤ most) × AllByRecursion P vs × Behind (taken + length vs) rest
short_within most entry P one vs rest taken h =
    let n = past_number taken (length vs) (provided (nat_le (length vs) most) (each entry vs rest)) h in
    let p = past_provided (taken + 1) (nat_le (length vs) most) (each entry vs rest) n.1 in
    let e = each_within entry P one vs rest (taken + 1) p.1 in
    (leb-true (length vs) most p.0, e.0, behind_fewer (taken + 1 + length vs) (taken + length vs) rest (omega arith) e.1)

name_within : Tells name IsName
name_within t rest taken h =
    let n = past_number taken (length t) (provided (nat_le (length t) most_name_bytes) (utf8 t rest)) h in
    let p = past_provided (taken + 1) (nat_le (length t) most_name_bytes) (utf8 t rest) n.1 in
    let s = past_text (taken + 1) t (provided (is_utf8 t) rest) p.1 in
    let u = past_provided (taken + 1 + length t) (is_utf8 t) rest s.1 in
    ((s.0, leb-true (length t) most_name_bytes p.0), behind_fewer (taken + 1 + length t) (taken + 1) rest (omega arith) u.1)

-- ---- types

value_types : Tells value_type (λ t. Unit {0})
value_types t rest taken h = (tt, past_byte taken (type_code t) rest h)

type_within : Tells type_entry (λ t. length t.ty.params ≤ most_parameters)
type_within t rest taken h =
    let given = short_vector most_results value_type (results t.ty.result) rest in
    let form = past_byte taken 0x60 (short_vector most_parameters value_type t.ty.params given)
    (past_here taken t.place (func_type t.ty rest) h) in
    let taking = short_within most_parameters value_type (λ v. Unit {0}) value_types t.ty.params given (taken + 1) form in
    let params = length t.ty.params in
    let giving = short_within most_results value_type (λ v. Unit {0}) value_types (results t.ty.result) rest
    (taken + 1 + params) taking.2 in
    (taking.0, behind_fewer (taken + 1 + params + length (results t.ty.result)) (taken + 1) rest (omega arith) giving.2)

abbrev pub LimitsAreWithin : ℕ → Limits → Type 0
LimitsAreWithin most l = (l.min ≤ most) × IsMaximum l.max

sizes_within : (most min : ℕ) (max : Option ℕ) (rest : Fields) (taken : ℕ) → Behind taken (limits_from most min max rest)
    → ((min ≤ most) × IsMaximum max) × Behind (taken + 1) rest
sizes_within most min None rest taken h =
    let n = past_number (taken + 1) min (provided (nat_le min most) rest) (past_byte taken 0x00 _ h) in
    let p = past_provided (taken + 1 + 1) (nat_le min most) rest n.1 in
    ((leb-true min most p.0, tt), behind_fewer (taken + 1 + 1) (taken + 1) rest (omega arith) p.1)
sizes_within most min (Some max) rest taken h =
    let n = past_number (taken + 1) min (provided (nat_le min most) (number max rest)) (past_byte taken 0x01 _ h) in
    let p = past_provided (taken + 1 + 1) (nat_le min most) (number max rest) n.1 in
    let m = past_number (taken + 1 + 1) max rest p.1 in
    ((leb-true min most p.0, m.0), behind_fewer (taken + 1 + 1 + 1) (taken + 1) rest (omega arith) m.1)

limits_within : (most : ℕ) → Tells (limits most) (LimitsAreWithin most)
limits_within most l rest taken h = sizes_within most l.min l.max rest taken (past_here taken l.place (limits_from most l.min l.max rest) h)

-- ---- entries

abbrev pub KindIsWithin : ImportKind → Type 0
KindIsWithin (imported.Func type_index) = ⊤
KindIsWithin (imported.Table l) = LimitsAreWithin most_table_elements l
KindIsWithin (imported.Memory l) = LimitsAreWithin most_memory_pages l
KindIsWithin (imported.Global ty mutable) = ⊤

kind_within : (k : ImportKind) (place : ℕ) (rest : Fields) (taken : ℕ) → Behind taken (import_kind k place rest)
    → KindIsWithin k × Behind (taken + 1) rest
kind_within (imported.Func type_index) place rest taken h =
    let n = past_number (taken + 1) type_index rest (past_here (taken + 1) place _ (past_byte taken 0x00 _ h)) in
    (tt, behind_fewer (taken + 1 + 1) (taken + 1) rest (omega arith) n.1)
kind_within (imported.Table l) place rest taken h =
    let element = past_byte (taken + 1) 0x70 _ (past_here (taken + 1) place _ (past_byte taken 0x01 _ h)) in
    let n = limits_within most_table_elements l rest (taken + 1 + 1) element in
    (n.0, behind_fewer (taken + 1 + 1 + 1) (taken + 1) rest (omega arith) n.1)
kind_within (imported.Memory l) place rest taken h =
    let n = limits_within most_memory_pages l rest (taken + 1) (past_here (taken + 1) place _ (past_byte taken 0x02 _ h)) in
    (n.0, behind_fewer (taken + 1 + 1) (taken + 1) rest (omega arith) n.1)
kind_within (imported.Global ty mutable) place rest taken h =
    let t = past_byte (taken + 1) (type_code ty) _ (past_here (taken + 1) place _ (past_byte taken 0x03 _ h)) in
    let m = past_byte (taken + 1 + 1) (mutability_code mutable) rest t in
    (tt, behind_fewer (taken + 1 + 1 + 1) (taken + 1) rest (omega arith) m)

pub record ImportIsWithin (i : Import) : Type 0 where
  pub names : IsName i.«module» × IsName i.field
  pub kind : KindIsWithin i.kind

import_within : Tells import_entry ImportIsWithin
import_within i rest taken h =
    let m = name_within i.«module» (name i.field (import_kind i.kind i.place rest)) taken h in
    let f = name_within i.field (import_kind i.kind i.place rest) (taken + 1) m.1 in
    let k = kind_within i.kind i.place rest (taken + 1 + 1) f.1 in
    (record { names = (m.0, f.0); kind = k.0 }, behind_fewer (taken + 1 + 1 + 1) (taken + 1) rest (omega arith) k.1)

func_within : Tells func_entry (λ f. Unit {0})
func_within f rest taken h = (tt, (past_number taken f.type_index rest (past_here taken f.place _ h)).1)

table_within : Tells table_entry (λ t. LimitsAreWithin most_table_elements t.limits)
table_within t rest taken h =
    let n = limits_within most_table_elements t.limits rest (taken + 1) (past_byte taken 0x70 _ (past_here taken t.place _ h)) in
    (n.0, behind_fewer (taken + 1 + 1) (taken + 1) rest (omega arith) n.1)

memory_within : Tells memory_entry (λ m. LimitsAreWithin most_memory_pages m.limits)
memory_within m rest taken h = limits_within most_memory_pages m.limits rest taken (past_here taken m.place _ h)

-- an expression and its end
expression_within : (code : Code) (rest : Fields) (taken : ℕ) → Behind taken (expression code rest) → Behind (taken + 1) rest
expression_within code rest taken h =
    let c = code_within most_blocks code (byte 0x0B rest) taken h in
    behind_fewer (taken + least_bytes code + 1) (taken + 1) rest (omega arith) (past_byte (taken + least_bytes code) 0x0B rest c.1)

global_within : Tells global_entry (λ g. Unit {0})
global_within g rest taken h =
    let t = past_byte taken (type_code g.ty) _ h in
    let m = past_byte (taken + 1) (mutability_code g.mutable) _ t in
    let e = expression_within g.code rest (taken + 1 + 1) (past_here (taken + 1 + 1) g.place _ m) in
    (tt, behind_fewer (taken + 1 + 1 + 1) (taken + 1) rest (omega arith) e)

export_within : Tells export_entry (λ e. IsName e.name)
export_within e rest taken h =
    let n = name_within e.name (byte (export_code e.kind) (here e.index_place (number e.index rest))) taken
    (past_here taken e.name_place _ h) in
    let k = past_here (taken + 1 + 1) e.index_place _ (past_byte (taken + 1) (export_code e.kind) _ n.1) in
    (n.0, behind_fewer (taken + 1 + 1 + 1) (taken + 1) rest (omega arith) (past_number (taken + 1 + 1) e.index rest k).1)

ref_within : Tells func_ref (λ f. Unit {0})
ref_within f rest taken h = (tt, (past_number taken f.index rest (past_here taken f.place _ h)).1)

element_within : Tells element_entry (λ e. length e.funcs ≤ most_module_bytes)
element_within e rest taken h =
    let t = past_number taken e.table _ (past_here taken e.place _ h) in
    let o = expression_within e.offset (vector func_ref e.funcs rest) (taken + 1) (past_here (taken + 1) e.offset_place _ t.1) in
    let f = vector_within func_ref (λ f. Unit {0}) ref_within e.funcs rest (taken + 1 + 1) o in
    let all : taken + 1 + 1 + length e.funcs ≤ most_module_bytes = within_file (taken + 1 + 1 + length e.funcs) rest f.1 in
    (omega (arith, all), behind_fewer (taken + 1 + 1 + length e.funcs) (taken + 1) rest (omega arith) f.1)

pub record SegmentIsWithin (s : SegmentEntry) : Type 0 where
  pub are_bytes : AreBytes s.bytes
  pub long : length s.bytes ≤ most_module_bytes

segment_within : Tells segment_entry SegmentIsWithin
segment_within s rest taken h =
    let m = past_number taken s.memory _ (past_here taken s.place _ h) in
    let o = expression_within s.offset (number (length s.bytes) (text s.bytes rest)) (taken + 1)
    (past_here (taken + 1) s.offset_place _ m.1) in
    let n = past_number (taken + 1 + 1) (length s.bytes) (text s.bytes rest) o in
    let t = past_text (taken + 1 + 1 + 1) s.bytes rest n.1 in
    let all : taken + 1 + 1 + 1 + length s.bytes ≤ most_module_bytes = within_file (taken + 1 + 1 + 1 + length s.bytes) rest t.1 in (
      record { are_bytes = t.0; long = omega (arith, all) },
      behind_fewer (taken + 1 + 1 + 1 + length s.bytes) (taken + 1) rest (omega arith) t.1,
    )

-- ---- bodies

runs_within : (locals all_locals : ℕ) (rs : List Run) (rest : Fields) (taken : ℕ) → locals ≤ most_locals
    → Behind taken (runs locals all_locals rs rest)
    → (locals + locals_of rs ≤ most_locals) × Behind taken rest
runs_within locals all_locals [] rest taken le h = (omega (arith, le), h)
runs_within locals all_locals (r ∷ rs) rest taken le h =
    let n = past_number taken r.count _ h in
    let p = past_provided (taken + 1) (nat_le (locals + r.count) most_locals) _ n.1 in
    let q = past_provided (taken + 1) (nat_le (all_locals + r.count) most_all_locals) _ p.1 in
    let t = past_byte (taken + 1) (type_code r.ty) (runs (locals + r.count) (all_locals + r.count) rs rest) q.1 in
    let few : locals + r.count ≤ most_locals = leb-true (locals + r.count) most_locals p.0 in
    let others = runs_within (locals + r.count) (all_locals + r.count) rs rest (taken + 1 + 1) few t in
    (omega (arith, others.0), behind_fewer (taken + 1 + 1) taken rest (omega arith) others.1)

count_of_runs : (rs : List Run) → length (declared_locals rs) ≡ locals_of rs
count_of_runs [] = refl
count_of_runs (r ∷ rs) =
    length-append (replicate r.count r.ty) (declared_locals rs)
    ∙ ap (λ n. n + length (declared_locals rs)) (length-replicate r.count r.ty)
    ∙ ap (λ n. r.count + n) (count_of_runs rs)

body_within : (all_locals : ℕ) (b : BodyEntry) (taken : ℕ)
    → Behind taken (number (length b.runs) (runs 0 all_locals b.runs (code_fields most_blocks b.code (end_byte b.end_place finished))))
    → BodyIsWithin b
body_within all_locals b taken h =
    let behind = code_fields most_blocks b.code (end_byte b.end_place finished) in
    let r = runs_within 0 all_locals b.runs behind (taken + 1) (omega arith) (past_number taken (length b.runs) _ h).1 in
    let c = code_within most_blocks b.code (end_byte b.end_place finished) (taken + 1) r.1 in
    let all : taken + 1 + least_bytes b.code ≤ most_module_bytes = within_file (taken + 1 + least_bytes b.code) _ c.1 in
    record {
      locals = omega (arith, r.0, count_of_runs b.runs);
      bytes = omega (arith, all);
      depth = c.0.depth;
      numbers = c.0.numbers;
    }

bodies_within : (all_locals : ℕ) (bs : List BodyEntry) (rest : Fields) (taken : ℕ) → Behind taken (bodies all_locals bs rest)
    → AllByRecursion BodyIsWithin bs
bodies_within all_locals [] rest taken h = tt
bodies_within all_locals (b ∷ bs) rest taken h =
    let w = past_window taken _ (bodies (all_locals + locals_of b.runs) bs rest) h in
    (body_within all_locals b taken w.0, bodies_within (all_locals + locals_of b.runs) bs rest (taken + 1) w.1)

-- ---- parts

-- so many entries, each within its limits
abbrev pub AreWithin : {A : Type 0} → ℕ → (A → Type 0) → List A → Type 0
AreWithin most P vs = (length vs ≤ most) × AllByRecursion P vs

abbrev pub PartIsWithin : Part → Module → Type 0
PartIsWithin of.types t = AreWithin most_module_bytes (λ (e : TypeEntry). length e.ty.params ≤ most_parameters) t.types
PartIsWithin of.imports t = AreWithin most_module_bytes ImportIsWithin t.imports
PartIsWithin of.functions t = length t.funcs ≤ most_functions
PartIsWithin of.tables t = AllByRecursion (λ (e : LimitsEntry). LimitsAreWithin most_table_elements e.limits) t.tables
PartIsWithin of.memories t = AllByRecursion (λ (e : LimitsEntry). LimitsAreWithin most_memory_pages e.limits) t.memories
PartIsWithin of.globals t = length t.globals ≤ most_module_bytes
PartIsWithin of.exports t = AreWithin most_module_bytes (λ (e : Export). IsName e.name) t.exports
PartIsWithin of.start t = ⊤
PartIsWithin of.elements t = AreWithin most_module_bytes (λ (e : ElementEntry). length e.funcs ≤ most_module_bytes) t.elements
PartIsWithin of.data_count t = ⊤
PartIsWithin of.code t = AllByRecursion BodyIsWithin t.bodies
PartIsWithin of.segments t = AreWithin most_module_bytes SegmentIsWithin t.segments

counted : {A : Type 0} (entry : A → Fields → Fields) (P : A → Type 0) → Tells entry P
    → (vs : List A) (taken : ℕ) → Behind taken (vector entry vs finished) → AreWithin most_module_bytes P vs
counted entry P one vs taken h =
    let v = vector_within entry P one vs finished taken h in
    let all : taken + length vs ≤ most_module_bytes = within_file (taken + length vs) finished v.1 in
    (omega (arith, all), v.0)

content_within : (part : Part) (t : Module) (taken : ℕ) → Behind taken (content part t finished) → PartIsWithin part t
content_within of.types t taken h = counted type_entry _ type_within t.types taken h
content_within of.imports t taken h = counted import_entry ImportIsWithin import_within t.imports taken h
content_within of.functions t taken h = (short_within most_functions func_entry (λ f. Unit {0}) func_within t.funcs finished taken h).0
content_within of.tables t taken h = (counted table_entry _ table_within t.tables taken h).1
content_within of.memories t taken h = (counted memory_entry _ memory_within t.memories taken h).1
content_within of.globals t taken h = (counted global_entry (λ g. Unit {0}) global_within t.globals taken h).0
content_within of.exports t taken h = counted export_entry _ export_within t.exports taken h
content_within of.start t taken h = tt
content_within of.elements t taken h = counted element_entry _ element_within t.elements taken h
content_within of.data_count t taken h = tt
content_within of.code t taken h =
    bodies_within 0 t.bodies finished (taken + 1) (past_number taken (length t.bodies) (bodies 0 t.bodies finished) h).1
content_within of.segments t taken h = counted segment_entry SegmentIsWithin segment_within t.segments taken h

none_there : {A : Type 0} (most : ℕ) (P : A → Type 0) (vs : List A) → eqb (length vs) 0 ≡ true → AreWithin most P vs
none_there most P [] e = (omega arith, tt)
none_there most P (v ∷ vs) e = let some : suc (length vs) ≡ 0 = eqb-true (suc (length vs)) 0 e in absurd (omega (arith, some))

empty_within : (part : Part) (t : Module) → is_empty part t ≡ true → PartIsWithin part t
empty_within of.types t e = none_there most_module_bytes _ t.types e
empty_within of.imports t e = none_there most_module_bytes ImportIsWithin t.imports e
empty_within of.functions t e = (none_there most_functions (λ f. Unit {0}) t.funcs e).0
empty_within of.tables t e = (none_there 0 _ t.tables e).1
empty_within of.memories t e = (none_there 0 _ t.memories e).1
empty_within of.globals t e = (none_there most_module_bytes (λ g. Unit {0}) t.globals e).0
empty_within of.exports t e = none_there most_module_bytes _ t.exports e
empty_within of.start t e = tt
empty_within of.elements t e = none_there most_module_bytes _ t.elements e
empty_within of.data_count t e = tt
empty_within of.code t e = (none_there 0 BodyIsWithin t.bodies e).1
empty_within of.segments t e = none_there most_module_bytes SegmentIsWithin t.segments e

-- ---- sections

custom_within : Tells custom (λ c. Unit {0})
custom_within c rest taken h =
    let w = past_window (taken + 1) (any_name c.name (text c.bytes finished)) rest (past_byte taken 0x00 _ h) in
    (tt, behind_fewer (taken + 1 + 1) (taken + 1) rest (omega arith) w.1)

past_customs : (taken : ℕ) (rest : Fields) → Behind taken (customs rest) → Behind taken rest
past_customs taken rest h =
    let s = past_some taken (λ cs. each custom cs rest) h in
    let e = each_within custom (λ c. Unit {0}) custom_within s.0 rest taken s.1 in
    behind_fewer (taken + length s.0) taken rest (omega arith) e.1

section_within : (part : Part) (t : Module) (rest : Fields) (taken : ℕ) → Behind taken (section part t rest)
    → PartIsWithin part t × Behind taken rest
section_within part t rest taken h =
    go (past_either taken (provided (is_empty part t) rest) (byte (id_of part) (window (content part t finished) rest)) h)
  where
    go : Behind taken (provided (is_empty part t) rest) ⊎ Behind taken (byte (id_of part) (window (content part t finished) rest))
        → PartIsWithin part t × Behind taken rest
    go (inl empty) = let p = past_provided taken (is_empty part t) rest empty in (empty_within part t p.0, p.1)
    go (inr full) =
        let w = past_window (taken + 1) (content part t finished) rest
        (past_byte taken (id_of part) (window (content part t finished) rest) full) in
        (content_within part t (taken + 1) w.0, behind_fewer (taken + 1 + 1) taken rest (omega arith) w.1)

sections_within : (ps : List Part) (t : Module) (rest : Fields) (taken : ℕ) → Behind taken (sections ps t rest)
    → AllByRecursion (λ part. PartIsWithin part t) ps
sections_within [] t rest taken h = tt
sections_within (part ∷ more) t rest taken h =
    let s = section_within part t (sections more t rest) taken (past_customs taken (section part t (sections more t rest)) h) in
    (s.0, sections_within more t rest taken s.1)

-- ---- modules

pub record PartsAreWithin (t : Module) : Type 0 where
  pub types : PartIsWithin of.types t
  pub imports : PartIsWithin of.imports t
  pub functions : PartIsWithin of.functions t
  pub tables : PartIsWithin of.tables t
  pub memories : PartIsWithin of.memories t
  pub globals : PartIsWithin of.globals t
  pub exports : PartIsWithin of.exports t
  pub elements : PartIsWithin of.elements t
  pub code : PartIsWithin of.code t
  pub segments : PartIsWithin of.segments t
  pub as_many : length t.bodies ≡ length t.funcs

pub spelled_within : (t : Module) (bytes : List ℕ) → AreBytes bytes → Spells t bytes → PartsAreWithin t
spelled_within t bytes are (s, small) =
    let whole : Behind 0 (module_fields t) =
    record { place = 0; bytes = bytes; spelled = s; are_bytes = are; room = omega (arith, small) } in
    let magic = past_byte 3 0x6D _ (past_byte 2 0x73 _ (past_byte 1 0x61 _ (past_byte 0 0x00 _ whole))) in
    let version = past_byte 7 0x00 _ (past_byte 6 0x00 _ (past_byte 5 0x00 _ (past_byte 4 0x01 _ magic))) in
    let p = past_provided 8 (eqb (length t.funcs) (length t.bodies)) (sections parts t finished) version in
    let (
      types,
      (
        imports,
        (functions, (tables, (memories, (globals, (exports, (start, (elements, (data_count, (code, (segments, _)))))))))),
      ),
    ) =
    sections_within parts t finished 8 p.1 in
    record {
      types = types;
      imports = imports;
      functions = functions;
      tables = tables;
      memories = memories;
      globals = globals;
      exports = exports;
      elements = elements;
      code = code;
      segments = segments;
      as_many = sym (eqb-true (length t.funcs) (length t.bodies) p.0);
    }
