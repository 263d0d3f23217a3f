-- Modules, and the same with every place 0: the same bytes spell both with the places aside.
use Rattle.wasm_writing.proofs.Common.{◌≡◌, ℕ, ◌≤◌, false, List, [], ◌∷◌, map, length, is_none, nat_eq, Some, None, Option, sym, refl, ap}
use Rattle.wasm_writing.proofs.Common.{◌∙◌, subst, inl, inr, cases_Bool, DataCount, Start, Module, Fields, finished, number, provided}
use Rattle.wasm_writing.proofs.Common.{most_functions, most_module_bytes, Part, bodies, code, content, data_count, data_count_content, each}
use Rattle.wasm_writing.proofs.Common.{elements, exports, functions, globals, id_of, imports, is_empty, memories, module_fields}
use Rattle.wasm_writing.proofs.Common.{parts, segments, start, start_content, tables, types, SpellsAside, bare_body}
use Rattle.wasm_writing.proofs.Common.{bare_data_count, bare_element, bare_export, bare_func, bare_global, bare_import, bare_limits_entry}
use Rattle.wasm_writing.proofs.Common.{bare_module, bare_segment, bare_start, bare_type, filled, short_fields}
use Rattle.wasm_writing.specs.Aside.{SpelledAside}
use Rattle.wasm_writing.proofs.Aside.{short_aside_of, spelled_aside}
use Rattle.wasm_writing.proofs.Both.{Both, both_here, both_none, both_self, both_short_vector, both_then, both_vector, both_window}
use Rattle.wasm_writing.proofs.Both.{length-bare}
use Rattle.wasm_writing.proofs.BothEntries.{both_bodies, both_element, both_export, both_func, both_global, both_import, both_memory}
use Rattle.wasm_writing.proofs.BothEntries.{both_segment, both_table, both_type}
use Rattle.wasm_writing.proofs.Fills.{start_of_file, keeps_byte, keeps_number, keeps_provided, keeps_start}
use Rattle.wasm_writing.proofs.FillsEntries.{keeps_data_count}
use Rattle.wasm_writing.proofs.PartLemmas.{filled-empty, filled-full}

both_start : (s : Option Start) → Both (start_content s) (start_content (bare_start s))
both_start None = both_self (keeps_provided false)
both_start (Some s) = both_here (both_self (keeps_number s.index))

both_data_count : (d : Option DataCount) (found : ℕ) → Both (data_count_content d found) (data_count_content (bare_data_count d) found)
both_data_count None found = both_self (keeps_provided false)
both_data_count (Some d) found = both_here (both_self (keeps_data_count d.count found))

both_data_count_part : (t : Module) → Both (content data_count t) (content data_count (bare_module t))
both_data_count_part t =
    subst (λ n. Both (content data_count t) (data_count_content (bare_data_count t.data_count) n))
    (sym (length-bare bare_segment t.segments)) (both_data_count t.data_count (length t.segments))

both_code_part : (t : Module) → Both (content code t) (content code (bare_module t))
both_code_part t =
    subst (λ n. Both (content code t) (λ x. number n (bodies 0 (map bare_body t.bodies) x))) (sym (length-bare bare_body t.bodies))
    (both_then (both_self (keeps_number (length t.bodies))) (both_bodies 0 t.bodies))

both_part : (part : Part) (t : Module) → Both (content part t) (content part (bare_module t))
both_part types t = both_vector bare_type both_type t.types
both_part imports t = both_vector bare_import both_import t.imports
both_part functions t = both_short_vector most_functions bare_func both_func t.funcs
both_part tables t = both_vector bare_limits_entry both_table t.tables
both_part memories t = both_vector bare_limits_entry both_memory t.memories
both_part globals t = both_vector bare_global both_global t.globals
both_part exports t = both_vector bare_export both_export t.exports
both_part start t = both_start t.start
both_part elements t = both_vector bare_element both_element t.elements
both_part data_count t = both_data_count_part t
both_part code t = both_code_part t
both_part segments t = both_vector bare_segment both_segment t.segments

no_count_bare : (d : Option DataCount) → is_none (bare_data_count d) ≡ is_none d
no_count_bare None = refl
no_count_bare (Some d) = refl

none_bare : (s : Option Start) → is_none (bare_start s) ≡ is_none s
none_bare None = refl
none_bare (Some s) = refl

empty_bare : (part : Part) (t : Module) → is_empty part (bare_module t) ≡ is_empty part t
empty_bare types t = ap (λ n. nat_eq n 0) (length-bare bare_type t.types)
empty_bare imports t = ap (λ n. nat_eq n 0) (length-bare bare_import t.imports)
empty_bare functions t = ap (λ n. nat_eq n 0) (length-bare bare_func t.funcs)
empty_bare tables t = ap (λ n. nat_eq n 0) (length-bare bare_limits_entry t.tables)
empty_bare memories t = ap (λ n. nat_eq n 0) (length-bare bare_limits_entry t.memories)
empty_bare globals t = ap (λ n. nat_eq n 0) (length-bare bare_global t.globals)
empty_bare exports t = ap (λ n. nat_eq n 0) (length-bare bare_export t.exports)
empty_bare start t = none_bare t.start
empty_bare elements t = ap (λ n. nat_eq n 0) (length-bare bare_element t.elements)
empty_bare data_count t = no_count_bare t.data_count
empty_bare code t = ap (λ n. nat_eq n 0) (length-bare bare_body t.bodies)
empty_bare segments t = ap (λ n. nat_eq n 0) (length-bare bare_segment t.segments)

same_fields : {f g : Fields → Fields} (f' g' : Fields → Fields) → ((x : Fields) → f x ≡ f' x) → ((x : Fields) → g x ≡ g' x) → Both f g
    → Both f' g'
same_fields f' g' e d b = record {
  on = λ rest other go bytes s. subst (λ x. SpelledAside x bytes) (d other)
      (b.on rest other go bytes (subst (λ x. SpelledAside x bytes) (sym (e rest)) s));
  back = λ rest other go bytes s. subst (λ x. SpelledAside x bytes) (e other)
      (b.back rest other go bytes (subst (λ x. SpelledAside x bytes) (sym (d rest)) s));
}

both_filled : (t : Module) (part : Part) → Both (filled t part) (filled (bare_module t) part)
both_filled t part = elim (cases_Bool (is_empty part t)) [
  | inl empty ↦ same_fields (filled t part) (filled (bare_module t) part) (λ x. sym (filled-empty t part x empty))
      (λ x. sym (filled-empty (bare_module t) part x (empty_bare part t ∙ empty))) both_none
  | inr full ↦ same_fields (filled t part) (filled (bare_module t) part) (λ x. sym (filled-full t part x full))
      (λ x. sym (filled-full (bare_module t) part x (empty_bare part t ∙ full)))
      (both_then (both_self (keeps_byte (id_of part))) (both_window (both_part part t)))
]

both_parts : (t : Module) (ps : List Part) → Both (each (filled t) ps) (each (filled (bare_module t)) ps)
both_parts t [] = both_none
both_parts t (part ∷ ps) = both_then (both_filled t part) (both_parts t ps)

counts_bare : (t : Module) → nat_eq (length (map bare_func t.funcs)) (length (map bare_body t.bodies))
    ≡ nat_eq (length t.funcs) (length t.bodies)
counts_bare t =
    ap (λ n. nat_eq n (length (map bare_body t.bodies))) (length-bare bare_func t.funcs)
    ∙ ap (λ n. nat_eq (length t.funcs) n) (length-bare bare_body t.bodies)

both_short : (t : Module) → Both (short_fields t) (short_fields (bare_module t))
unfolding start_of_file
both_short t =
    let count = nat_eq (length t.funcs) (length t.bodies) in
    subst (λ b. Both (short_fields t) (λ x. start_of_file (provided b (each (filled (bare_module t)) parts x)))) (sym (counts_bare t))
    (both_then (both_self keeps_start) (both_then (both_self (keeps_provided count)) (both_parts t parts)))

-- a file of a module's spells its short fields with the places aside, in no more bytes
pub short_of_file : (t : Module) (bytes : List ℕ) → SpellsAside t bytes
    → (short : List ℕ) × SpelledAside (short_fields t finished) short × (length short ≤ length bytes) × (length bytes ≤ most_module_bytes)
short_of_file t bytes (u, same, (s, small)) =
    let r = short_aside_of u bytes (spelled_aside (module_fields u) 0 bytes s) in
    let of_bare = (both_short u).on finished finished (λ b h. h) r.0 r.1 in
    let of_other = subst (λ (m : Module). SpelledAside (short_fields m finished) r.0) (sym same) of_bare in
    (r.0, (both_short t).back finished finished (λ b h. h) r.0 of_other, r.2, small)
