-- The limits say nothing of places, so a module keeps within them wherever a module that differs in places alone does.
use Rattle.wasm_spelling.proofs.Common.{◌≡◌, ℕ, suc, ◌+◌, ◌≤◌, max, false, ◌||◌, List, [], ◌∷◌, map, length, flat_map, sym, refl, ap, ◌∙◌}
use Rattle.wasm_spelling.proofs.Common.{subst, arith, length-map, AllByRecursion, all_append, all_flat, all_map, memory_of_import}
use Rattle.wasm_spelling.proofs.Common.{memory_space, table_of_import, table_space, Block, Code, If, Kind, Loop, else_code, end_code}
use Rattle.wasm_spelling.proofs.Common.{no_else, then_code, ElementEntry, Export, Import, ImportKind, Limits, LimitsEntry, TypeEntry}
use Rattle.wasm_spelling.proofs.Common.{Module, most_functions, most_memory_pages, most_module_bytes, most_parameters, most_table_elements}
use Rattle.wasm_spelling.proofs.Common.{BodyIsWithin, IsMaximum, IsName, WithinLimits, block_depth, block_depth_of, has_wide, least_bytes}
use Rattle.wasm_spelling.proofs.Common.{least_bytes_of, some_in, some_inside, of_each}
use Rattle.wasm_tree.specs.declared.entries.ImportKind.TheVariants as imported
use Rattle.wasm_spelling.specs.Places.{bare_code, bare_kind, bare_type, bare_import_kind, bare_import, bare_func, bare_limits_entry}
use Rattle.wasm_spelling.specs.Places.{bare_global, bare_export, bare_func_ref, bare_element, bare_segment, bare_body, bare_module}
use Rattle.wasm_spelling.specs.Places.{IsFormed}
use Rattle.wasm_spelling.proofs.WithinModule.{AreWithin, KindIsWithin, ImportIsWithin, SegmentIsWithin, LimitsAreWithin, PartsAreWithin}
use Rattle.wasm_spelling.proofs.WithinModule.{spelled_within}

-- ---- code

mutual
  bytes_bare : (code : Code) → least_bytes (bare_code code) ≡ least_bytes code
  bytes_bare end_code = refl
  bytes_bare (then_code place kind code) = λ i. kind_bytes_bare kind i + bytes_bare code i

  kind_bytes_bare : (kind : Kind) → least_bytes_of (bare_kind kind) ≡ least_bytes_of kind
  kind_bytes_bare (Block t code end_place) = ap (λ n. 3 + n) (bytes_bare code)
  kind_bytes_bare (Loop t code end_place) = ap (λ n. 3 + n) (bytes_bare code)
  kind_bytes_bare (If t code no_else end_place) = ap (λ n. 3 + n + 0) (bytes_bare code)
  kind_bytes_bare (If t code (else_code place other) end_place) = λ i. 3 + bytes_bare code i + (1 + bytes_bare other i)
  kind_bytes_bare kind = refl

mutual
  depth_bare : (code : Code) → block_depth (bare_code code) ≡ block_depth code
  depth_bare end_code = refl
  depth_bare (then_code place kind code) = λ i. max (kind_depth_bare kind i) (depth_bare code i)

  kind_depth_bare : (kind : Kind) → block_depth_of (bare_kind kind) ≡ block_depth_of kind
  kind_depth_bare (Block t code end_place) = ap suc (depth_bare code)
  kind_depth_bare (Loop t code end_place) = ap suc (depth_bare code)
  kind_depth_bare (If t code no_else end_place) = ap (λ n. suc (max n 0)) (depth_bare code)
  kind_depth_bare (If t code (else_code place other) end_place) = λ i. suc (max (depth_bare code i) (depth_bare other i))
  kind_depth_bare kind = refl

wide_bare : (kind : Kind) → has_wide (bare_kind kind) ≡ has_wide kind
wide_bare (Block t code end_place) = refl
wide_bare (Loop t code end_place) = refl
wide_bare (If t code otherwise end_place) = refl
wide_bare kind = refl

mutual
  some_bare : (code : Code) → some_in has_wide (bare_code code) ≡ some_in has_wide code
  some_bare end_code = refl
  some_bare (then_code place kind code) = λ i. (wide_bare kind i || kind_some_bare kind i) || some_bare code i

  kind_some_bare : (kind : Kind) → some_inside has_wide (bare_kind kind) ≡ some_inside has_wide kind
  kind_some_bare (Block t code end_place) = some_bare code
  kind_some_bare (Loop t code end_place) = some_bare code
  kind_some_bare (If t code no_else end_place) = ap (λ b. b || false) (some_bare code)
  kind_some_bare (If t code (else_code place other) end_place) = λ i. some_bare code i || some_bare other i
  kind_some_bare kind = refl

-- ---- entries with places and without

-- what P says of entries, and the same of the entries without their places
record Aside {A : Type 0} (bare : A → A) (P : A → Type 0) : Type 0 where
  off : (x : A) → P x → P (bare x)
  on : (x : A) → P (bare x) → P x

types_aside : Aside bare_type (λ (e : TypeEntry). length e.ty.params ≤ most_parameters)
types_aside = record { off = λ x h. h; on = λ x h. h }

exports_aside : Aside bare_export (λ (e : Export). IsName e.name)
exports_aside = record { off = λ x h. h; on = λ x h. h }

tables_aside : Aside bare_limits_entry (λ (e : LimitsEntry). LimitsAreWithin most_table_elements e.limits)
tables_aside = record { off = λ x h. h; on = λ x h. h }

memories_aside : Aside bare_limits_entry (λ (e : LimitsEntry). LimitsAreWithin most_memory_pages e.limits)
memories_aside = record { off = λ x h. h; on = λ x h. h }

elements_aside : Aside bare_element (λ (e : ElementEntry). length e.funcs ≤ most_module_bytes)
elements_aside = record {
  off = λ x h. subst (λ n. n ≤ most_module_bytes) (sym (length-map x.funcs bare_func_ref)) h;
  on = λ x h. subst (λ n. n ≤ most_module_bytes) (length-map x.funcs bare_func_ref) h;
}

segments_aside : Aside bare_segment SegmentIsWithin
segments_aside = record {
  off = λ x h. record { are_bytes = h.are_bytes; long = h.long };
  on = λ x h. record { are_bytes = h.are_bytes; long = h.long };
}

kind_off : (k : ImportKind) → KindIsWithin k → KindIsWithin (bare_import_kind k)
kind_off (imported.Table l) h = h
kind_off (imported.Memory l) h = h
kind_off _ h = tt

kind_on : (k : ImportKind) → KindIsWithin (bare_import_kind k) → KindIsWithin k
kind_on (imported.Table l) h = h
kind_on (imported.Memory l) h = h
kind_on _ h = tt

imports_aside : Aside bare_import ImportIsWithin
imports_aside = record {
  off = λ x h. record { names = h.names; kind = kind_off x.kind h.kind };
  on = λ x h. record { names = h.names; kind = kind_on x.kind h.kind };
}

bodies_aside : Aside bare_body BodyIsWithin
bodies_aside = record {
  off = λ x h. record {
    locals = h.locals;
    bytes = subst (λ n. n ≤ most_module_bytes) (sym (bytes_bare x.code)) h.bytes;
    depth = subst (λ n. n ≤ 500) (sym (depth_bare x.code)) h.depth;
    numbers = some_bare x.code ∙ h.numbers;
  };
  on = λ x h. record {
    locals = h.locals;
    bytes = subst (λ n. n ≤ most_module_bytes) (bytes_bare x.code) h.bytes;
    depth = subst (λ n. n ≤ 500) (depth_bare x.code) h.depth;
    numbers = sym (some_bare x.code) ∙ h.numbers;
  };
}

all_off : {A : Type 0} (bare : A → A) (P : A → Type 0) → Aside bare P → (xs : List A) → AllByRecursion P xs → AllByRecursion P (map bare xs)
all_off bare P aside [] h = tt
all_off bare P aside (x ∷ xs) h = (aside.off x h.0, all_off bare P aside xs h.1)

all_on : {A : Type 0} (bare : A → A) (P : A → Type 0) → Aside bare P → (xs : List A) → AllByRecursion P (map bare xs) → AllByRecursion P xs
all_on bare P aside [] h = tt
all_on bare P aside (x ∷ xs) h = (aside.on x h.0, all_on bare P aside xs h.1)

-- from entries to those that differ in places alone
same_all : {A : Type 0} (bare : A → A) (P : A → Type 0) → Aside bare P → (xs ys : List A) → map bare xs ≡ map bare ys
    → AllByRecursion P ys → AllByRecursion P xs
same_all bare P aside xs ys e h = all_on bare P aside xs (subst (AllByRecursion P) (sym e) (all_off bare P aside ys h))

same_length : {A : Type 0} (bare : A → A) (xs ys : List A) → map bare xs ≡ map bare ys → length xs ≡ length ys
same_length bare xs ys e = sym (length-map xs bare) ∙ ap length e ∙ length-map ys bare

same_count : {A : Type 0} (bare : A → A) (most : ℕ) (xs ys : List A) → map bare xs ≡ map bare ys → length ys ≤ most → length xs ≤ most
same_count bare most xs ys e le = omega (arith, same_length bare xs ys e, le)

same_within : {A : Type 0} (bare : A → A) (most : ℕ) (P : A → Type 0) → Aside bare P → (xs ys : List A) → map bare xs ≡ map bare ys
    → AreWithin most P ys → AreWithin most P xs
same_within bare most P aside xs ys e h = (same_count bare most xs ys e h.0, same_all bare P aside xs ys e h.1)

-- ---- index spaces

-- the import with this kind
abbrev of_kind : Import → ImportKind → Import
of_kind i k = record i { kind = k }

table_imported : (i : Import) (k : ImportKind) → KindIsWithin k
    → AllByRecursion (LimitsAreWithin most_table_elements) (table_of_import (of_kind i k))
table_imported i (imported.Table l) h = (h, tt)
table_imported i _ h = tt

memory_imported : (i : Import) (k : ImportKind) → KindIsWithin k
    → AllByRecursion (LimitsAreWithin most_memory_pages) (memory_of_import (of_kind i k))
memory_imported i (imported.Memory l) h = (h, tt)
memory_imported i _ h = tt

tables_within : (m : Module) → AllByRecursion ImportIsWithin m.imports
    → AllByRecursion (λ (e : LimitsEntry). LimitsAreWithin most_table_elements e.limits) m.tables
    → AllByRecursion (LimitsAreWithin most_table_elements) (table_space m)
tables_within m imports tables =
    all_append (LimitsAreWithin most_table_elements) (flat_map table_of_import m.imports) (map (λ t. t.limits) m.tables)
    (all_flat (LimitsAreWithin most_table_elements) table_of_import m.imports
    (of_each ImportIsWithin (λ i. AllByRecursion (LimitsAreWithin most_table_elements) (table_of_import i))
    (λ i h. table_imported i i.kind h.kind) m.imports imports))
    (all_map (LimitsAreWithin most_table_elements) (λ (t : LimitsEntry). t.limits) m.tables tables)

memories_within : (m : Module) → AllByRecursion ImportIsWithin m.imports
    → AllByRecursion (λ (e : LimitsEntry). LimitsAreWithin most_memory_pages e.limits) m.memories
    → AllByRecursion (LimitsAreWithin most_memory_pages) (memory_space m)
memories_within m imports memories =
    all_append (LimitsAreWithin most_memory_pages) (flat_map memory_of_import m.imports) (map (λ t. t.limits) m.memories)
    (all_flat (LimitsAreWithin most_memory_pages) memory_of_import m.imports
    (of_each ImportIsWithin (λ i. AllByRecursion (LimitsAreWithin most_memory_pages) (memory_of_import i))
    (λ i h. memory_imported i i.kind h.kind) m.imports imports))
    (all_map (LimitsAreWithin most_memory_pages) (λ (t : LimitsEntry). t.limits) m.memories memories)

-- ---- modules

differ_in_places : (t u : Module) → bare_module t ≡ bare_module u → PartsAreWithin u → PartsAreWithin t
differ_in_places t u e h = record {
  types = same_within bare_type most_module_bytes _ types_aside t.types u.types (ap (λ (m : Module). m.types) e) h.types;
  imports = same_within bare_import most_module_bytes _ imports_aside t.imports u.imports (ap (λ (m : Module). m.imports) e) h.imports;
  functions = same_count bare_func most_functions t.funcs u.funcs funcs h.functions;
  tables = same_all bare_limits_entry _ tables_aside t.tables u.tables (ap (λ (m : Module). m.tables) e) h.tables;
  memories = same_all bare_limits_entry _ memories_aside t.memories u.memories (ap (λ (m : Module). m.memories) e) h.memories;
  globals = same_count bare_global most_module_bytes t.globals u.globals (ap (λ (m : Module). m.globals) e) h.globals;
  exports = same_within bare_export most_module_bytes _ exports_aside t.exports u.exports (ap (λ (m : Module). m.exports) e) h.exports;
  elements = same_within bare_element most_module_bytes _ elements_aside t.elements u.elements (ap (λ (m : Module). m.elements) e)
      h.elements;
  code = same_all bare_body BodyIsWithin bodies_aside t.bodies u.bodies bodies h.code;
  segments = same_within bare_segment most_module_bytes _ segments_aside t.segments u.segments (ap (λ (m : Module). m.segments) e)
      h.segments;
  as_many = same_length bare_body t.bodies u.bodies bodies ∙ h.as_many ∙ sym (same_length bare_func t.funcs u.funcs funcs);
}
  where
    funcs : map bare_func t.funcs ≡ map bare_func u.funcs
    funcs = ap (λ (m : Module). m.funcs) e

    bodies : map bare_body t.bodies ≡ map bare_body u.bodies
    bodies = ap (λ (m : Module). m.bodies) e

parts_within : (m : Module) → PartsAreWithin m → WithinLimits m
parts_within m h =
    let tables = tables_within m h.imports.1 h.tables in
    let memories = memories_within m h.imports.1 h.memories in
    record {
      types = h.types.0;
      imports = h.imports.0;
      funcs = h.functions;
      globals = h.globals;
      exports = h.exports.0;
      segments = h.segments.0;
      bodies_are_there = h.as_many;
      params = h.types.1;
      tables = of_each (LimitsAreWithin most_table_elements) (λ l. l.min ≤ most_table_elements) (λ l k. k.0) (table_space m) tables;
      memories = of_each (LimitsAreWithin most_memory_pages) (λ l. l.min ≤ most_memory_pages) (λ l k. k.0) (memory_space m) memories;
      maxima = all_append (λ (l : Limits). IsMaximum l.max) (table_space m) (memory_space m)
          (of_each (LimitsAreWithin most_table_elements) (λ l. IsMaximum l.max) (λ l k. k.1) (table_space m) tables)
          (of_each (LimitsAreWithin most_memory_pages) (λ l. IsMaximum l.max) (λ l k. k.1) (memory_space m) memories);
      import_names = of_each ImportIsWithin (λ i. IsName i.«module» × IsName i.field) (λ i k. k.names) m.imports h.imports.1;
      export_names = h.exports.1;
      few_elements = h.elements.0;
      elements = h.elements.1;
      are_bytes = of_each SegmentIsWithin _ (λ s k. k.are_bytes) m.segments h.segments.1;
      bytes = of_each SegmentIsWithin _ (λ s k. k.long) m.segments h.segments.1;
      bodies = h.code;
    }

pub formed_is_within : (m : Module) → IsFormed m → WithinLimits m
formed_is_within m (bytes, are, (u, same, spelled)) = parts_within m (differ_in_places m u same (spelled_within u bytes are spelled))
