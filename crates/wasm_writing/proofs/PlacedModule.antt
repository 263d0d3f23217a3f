-- Sections: with some places they are the same but for places.
use Rattle.wasm_writing.proofs.Common.{◌≡◌, ℕ, ◌+◌, false, List, [], ◌∷◌, length, drop, is_none, nat_eq, nat_le, Some, None, Option, sym}
use Rattle.wasm_writing.proofs.Common.{refl, ap, ◌∙◌, subst, inl, inr, cases_Bool, DataCount, Start, Module, Fields, Spelled, byte}
use Rattle.wasm_writing.proofs.Common.{finished, number, provided, window, most_functions, Part, bodies, code, content, data_count}
use Rattle.wasm_writing.proofs.Common.{data_count_content, each, elements, exports, functions, globals, id_of, imports, is_empty, memories}
use Rattle.wasm_writing.proofs.Common.{module_fields, parts, rank_of, sections, segments, short_vector, start, start_content, tables, types}
use Rattle.wasm_writing.proofs.Common.{SameApartFromPlaces, bare_body, bare_data_count, bare_element, bare_export, bare_func, bare_global}
use Rattle.wasm_writing.proofs.Common.{bare_import, bare_limits_entry, bare_module, bare_segment, bare_start, bare_type, filled}
use Rattle.wasm_writing.proofs.Common.{short_fields}
use Rattle.wasm_writing.specs.Aside.{SpelledAside, SpelledBy}
use Rattle.wasm_spelling.proofs.Parts.{put}
use Rattle.wasm_writing.proofs.Both.{length-bare}
use Rattle.wasm_writing.proofs.Fills.{Fills, Like, Likes, fills_after, fills_as, fills_each, fills_here, fills_vector, fills_window}
use Rattle.wasm_writing.proofs.Fills.{start_of_file, keeps_byte, keeps_number, keeps_provided, keeps_start}
use Rattle.wasm_writing.proofs.FillsEntries.{fills_bodies, fills_element, fills_export, fills_func, fills_global, fills_import}
use Rattle.wasm_writing.proofs.FillsEntries.{fills_memory, fills_segment, fills_start, fills_table, fills_type, keeps_data_count}
use Rattle.wasm_writing.proofs.PartLemmas.{filled-empty, filled-full}

-- a module that is the same but for places, with entries in the same sections
abbrev Alike : Part → Module → Type 0
Alike part t = (u : Module) × (bare_module u ≡ bare_module t) × (is_empty part u ≡ is_empty part t)

fills_short : {A : Type 0} (most : ℕ) (bare : A → A) {fields : A → Fields → Fields}
    → ((v : A) → Fills {R = Like bare v} (fields v) (λ r. fields r.0)) → (vs : List A)
    → Fills {R = Likes bare vs} (short_vector most fields vs) (λ r. short_vector most fields r.0)
fills_short {A} most bare {fields} h vs =
    fills_as (λ r. r) (λ r x. ap (λ n. number n (provided (nat_le n most) (each fields r.0 x))) (sym r.2))
    (fills_after (keeps_number (length vs)) (fills_after (keeps_provided (nat_le (length vs) most)) (fills_each bare h vs)))

fills_start_content : (s : Option Start)
    → Fills {R = (u : Option Start) × (bare_start u ≡ bare_start s) × (is_none u ≡ is_none s)} (start_content s) (λ r. start_content r.0)
fills_start_content None = fills_as (λ _. (None, refl, refl)) (λ r x. refl) (keeps_provided false)
fills_start_content (Some s) = fills_as (λ r. (Some (record s { place = r.0 }), refl, refl)) (λ r x. refl) (fills_start s)

abbrev LikeCount : Option DataCount → Type 0
LikeCount d = (e : Option DataCount) × (bare_data_count e ≡ bare_data_count d) × (is_none e ≡ is_none d)

fills_data_count : (d : Option DataCount) (found : ℕ)
    → Fills {R = LikeCount d} (data_count_content d found) (λ r. data_count_content r.0 found)
fills_data_count None found = fills_as (λ _. (None, refl, refl)) (λ r x. refl) (keeps_provided false)
fills_data_count (Some d) found =
    fills_as (λ r. (Some (record d { place = r.0 }), refl, refl)) (λ r x. refl) (fills_here (keeps_data_count d.count found))

fills_code_content : (t : Module) → Fills {R = Likes bare_body t.bodies} (content code t) (λ r x. number (length r.0) (bodies 0 r.0 x))
fills_code_content t =
    fills_as (λ r. r) (λ r x. ap (λ n. number n (bodies 0 r.0 x)) (sym r.2))
    (fills_after (keeps_number (length t.bodies)) (fills_bodies 0 t.bodies))

-- what a section contains
fills_part : (part : Part) (t : Module) → Fills {R = Alike part t} (content part t) (λ r. content part r.0)
fills_part types t =
    fills_as (λ r. (record t { types = r.0 }, ap (λ l. record (bare_module t) { types = l }) r.1, ap (λ n. nat_eq n 0) r.2))
    (λ r x. refl) (fills_vector bare_type fills_type t.types)
fills_part imports t =
    fills_as (λ r. (record t { imports = r.0 }, ap (λ l. record (bare_module t) { imports = l }) r.1, ap (λ n. nat_eq n 0) r.2))
    (λ r x. refl) (fills_vector bare_import fills_import t.imports)
fills_part functions t =
    fills_as (λ r. (record t { funcs = r.0 }, ap (λ l. record (bare_module t) { funcs = l }) r.1, ap (λ n. nat_eq n 0) r.2))
    (λ r x. refl) (fills_short most_functions bare_func fills_func t.funcs)
fills_part tables t =
    fills_as (λ r. (record t { tables = r.0 }, ap (λ l. record (bare_module t) { tables = l }) r.1, ap (λ n. nat_eq n 0) r.2))
    (λ r x. refl) (fills_vector bare_limits_entry fills_table t.tables)
fills_part memories t =
    fills_as (λ r. (record t { memories = r.0 }, ap (λ l. record (bare_module t) { memories = l }) r.1, ap (λ n. nat_eq n 0) r.2))
    (λ r x. refl) (fills_vector bare_limits_entry fills_memory t.memories)
fills_part globals t =
    fills_as (λ r. (record t { globals = r.0 }, ap (λ l. record (bare_module t) { globals = l }) r.1, ap (λ n. nat_eq n 0) r.2))
    (λ r x. refl) (fills_vector bare_global fills_global t.globals)
fills_part exports t =
    fills_as (λ r. (record t { exports = r.0 }, ap (λ l. record (bare_module t) { exports = l }) r.1, ap (λ n. nat_eq n 0) r.2))
    (λ r x. refl) (fills_vector bare_export fills_export t.exports)
fills_part start t =
    fills_as (λ r. (record t { start = r.0 }, ap (λ l. record (bare_module t) { start = l }) r.1, r.2)) (λ r x. refl)
    (fills_start_content t.start)
fills_part elements t =
    fills_as (λ r. (record t { elements = r.0 }, ap (λ l. record (bare_module t) { elements = l }) r.1, ap (λ n. nat_eq n 0) r.2))
    (λ r x. refl) (fills_vector bare_element fills_element t.elements)
fills_part data_count t =
    fills_as (λ r. (record t { data_count = r.0 }, ap (λ l. record (bare_module t) { data_count = l }) r.1, r.2)) (λ r x. refl)
    (fills_data_count t.data_count (length t.segments))
fills_part code t =
    fills_as (λ r. (record t { bodies = r.0 }, ap (λ l. record (bare_module t) { bodies = l }) r.1, ap (λ n. nat_eq n 0) r.2))
    (λ r x. refl) (fills_code_content t)
fills_part segments t =
    fills_as (λ r. (record t { segments = r.0 }, ap (λ l. record (bare_module t) { segments = l }) r.1, ap (λ n. nat_eq n 0) r.2))
    (λ r x. refl) (fills_vector bare_segment fills_segment t.segments)

-- ---- one part of another module

-- the sections behind one
abbrev later : Part → List Part
later part = drop (rank_of part) parts

put_bare : (part : Part) (v u : Module) → bare_module (put part v u) ≡ put part (bare_module v) (bare_module u)
put_bare types v u = refl
put_bare part v u = refl

put_own : (part : Part) (m : Module) → put part m m ≡ m
put_own types m = refl
put_own part m = refl

put_empty : (part : Part) (v u : Module) → is_empty part (put part v u) ≡ is_empty part v
put_empty types v u = refl
put_empty part v u = refl

put_content : (part : Part) (v u : Module) → bare_module v ≡ bare_module u
    → content part (put part v u) finished ≡ content part v finished
put_content data_count v u e =
    ap (λ n. data_count_content v.data_count n finished) (sym (length-bare bare_segment u.segments)
    ∙ ap (λ (m : Module). length m.segments) (sym e) ∙ length-bare bare_segment v.segments)
put_content part v u e = refl

put_others : (part : Part) (v u : Module) → sections (later part) (put part v u) finished ≡ sections (later part) u finished
put_others types v u = refl
put_others part v u = refl

put_same : (part : Part) (t v u : Module) → bare_module v ≡ bare_module t → bare_module u ≡ bare_module t
    → bare_module (put part v u) ≡ bare_module t
put_same part t v u a b =
    put_bare part v u ∙ ap (λ m. put part m (bare_module u)) a ∙ ap (λ m. put part (bare_module t) m) b ∙ put_own part (bare_module t)

-- ---- sections

-- these sections, placed
abbrev Placed : List Part → Module → Type 0
Placed ps t =
    (place : ℕ) (bytes : List ℕ) → SpelledAside (each (filled t) ps finished) bytes
    → (u : Module) × (bare_module u ≡ bare_module t) × Spelled (sections ps u finished) place bytes

placed_part : (part : Part) (t : Module) → Placed (later part) t → Placed (part ∷ later part) t
placed_part part t next place bytes s = elim (cases_Bool (is_empty part t)) [
  | inl empty ↦
      let u = next place bytes (subst (λ f. SpelledAside f bytes) (filled-empty t part (each (filled t) (later part) finished) empty) s) in
      let w = put part t u.0 in
      let rest = subst (λ f. Spelled f place bytes) (sym (put_others part t u.0)) u.2 in
      (w, put_same part t t u.0 refl u.1, ([], inl (put_empty part t u.0 ∙ empty, rest)))
  | inr full ↦
      let s' = subst (λ f. SpelledAside f bytes) (filled-full t part (each (filled t) (later part) finished) full) s in
      let law = fills_after (keeps_byte (id_of part)) (fills_window (fills_part part t)) in
      let a = law.at place bytes (each (filled t) (later part) finished) s' in
      let v = a.result in
      let u = next (place + length a.front) a.back a.behind in
      let w = put part v.0 u.0 in
      let rest = subst (λ f. Spelled f (place + length a.front) a.back) (sym (put_others part v.0 u.0)) u.2 in
      let its = sym (put_content part v.0 u.0 (v.1 ∙ sym u.1)) in
      let whole = subst (λ f. Spelled (byte (id_of part) (window f (sections (later part) w finished))) place bytes) its
      (a.spelled (sections (later part) w finished) rest) in
      (w, put_same part t v.0 u.0 v.1 u.1, ([], inr whole))
]

placed_none : (t : Module) → Placed [] t
unfolding SpelledBy
placed_none t place bytes s = (t, refl, ([], s))

placed_all : (t : Module) → Placed parts t
placed_all t =
    placed_part types t (placed_part imports t (placed_part functions t (placed_part tables t (placed_part memories t
    (placed_part globals t (placed_part exports t (placed_part start t (placed_part elements t (placed_part data_count t
    (placed_part code t (placed_part segments t (placed_none t))))))))))))

-- ---- whole modules

same_counts : (t u : Module) → bare_module u ≡ bare_module t
    → nat_eq (length u.funcs) (length u.bodies) ≡ nat_eq (length t.funcs) (length t.bodies)
same_counts t u e =
    let funcs : length u.funcs ≡ length t.funcs =
    sym (length-bare bare_func u.funcs) ∙ ap (λ (m : Module). length m.funcs) e ∙ length-bare bare_func t.funcs in
    let codes : length u.bodies ≡ length t.bodies =
    sym (length-bare bare_body u.bodies) ∙ ap (λ (m : Module). length m.bodies) e ∙ length-bare bare_body t.bodies in
    ap (λ n. nat_eq n (length u.bodies)) funcs ∙ ap (λ n. nat_eq (length t.funcs) n) codes

-- what spells the short fields of a module with the places aside spells a module that is the same but for places
pub placed_module : (t : Module) (bytes : List ℕ) → SpelledAside (short_fields t finished) bytes
    → (u : Module) × SameApartFromPlaces t u × Spelled (module_fields u) 0 bytes
unfolding SpelledBy start_of_file
placed_module t bytes s =
    let begins = keeps_start.at 0 bytes (provided (nat_eq (length t.funcs) (length t.bodies)) (each (filled t) parts finished)) s in
    let u = placed_all t (0 + length begins.front) begins.back begins.behind.1 in (
      u.0,
      sym u.1,
      begins.spelled (provided (nat_eq (length (u.0).funcs) (length (u.0).bodies)) (sections parts u.0 finished))
          (same_counts t u.0 u.1 ∙ begins.behind.0, u.2),
    )
