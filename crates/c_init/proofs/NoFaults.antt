-- A module without faults keeps each row of what validation asks of it (WebAssembly Core 1.0, 3.4).
use Rattle.c_init.proofs.Common.{◌≡◌, ◌<◌, true, List, [], ◌∷◌, ◌++◌, length, flat_map, refl, arith}
use Rattle.c_init.proofs.Common.{memory_space, table_space, SegmentEntry, Module, too_many, unknown_types}
use Rattle.wasm_tree.specs.declared.entries.ElementEntry.{ElementEntry}
use Rattle.c_init.specs.Init.{tests_bounds}
use Rattle.wasm_typing.specs.declared.fault.ValidCause.TheVariants as cause
use Rattle.wasm_typing.specs.ModuleFaults.{module_faults, constant_expected, duplicate_exports, expressions, min_above_max, start_faults}
use Rattle.wasm_typing.specs.ModuleFaults.{too_many_pages, type_mismatch, unknown_elements, unknown_export, unknown_global}
use Rattle.wasm_typing.specs.ModuleFaults.{unknown_segments}
use Rattle.std.proofs.Math.Bool.{or-true}
use Rattle.c_init.proofs.Small.{no_left, no_right}

-- the rows of what validation asks of a module
pub record HasNoFault (m : Module) : Type 0 where
  pub known : unknown_types m ≡ []
  pub one_table : too_many cause.TooManyTables (table_space m) ≡ []
  pub one_memory : too_many cause.TooManyMemories (memory_space m) ≡ []
  pub constants : flat_map constant_expected (expressions m) ≡ []
  pub globals : flat_map unknown_global (expressions m) ≡ []
  pub types : flat_map type_mismatch (expressions m) ≡ []
  pub exports : flat_map (unknown_export m) m.exports ≡ []
  pub duplicates : duplicate_exports [] m.exports ≡ []
  pub start : start_faults m m.start ≡ []
  pub segments : unknown_segments m ≡ []
  pub elements : unknown_elements m ≡ []

pub rows_of : (m : Module) → module_faults m ≡ [] → HasNoFault m
unfolding module_faults
rows_of m e =
    let a = no_right (unknown_types m) _ e in
    let ab = no_left (too_many cause.TooManyTables (table_space m) ++ too_many cause.TooManyMemories (memory_space m)) _ a in
    let b = no_right (too_many cause.TooManyTables (table_space m) ++ too_many cause.TooManyMemories (memory_space m)) _ a in
    let d = no_right (flat_map min_above_max (table_space m ++ memory_space m)) _ b in
    let f = no_right (flat_map too_many_pages (memory_space m)) _ d in
    let h = no_right (flat_map constant_expected (expressions m)) _ f in
    let i = no_right (flat_map unknown_global (expressions m)) _ h in
    let j = no_right (flat_map type_mismatch (expressions m)) _ i in
    let k = no_right (flat_map (unknown_export m) m.exports) _ j in
    let l = no_right (duplicate_exports [] m.exports) _ k in
    let n = no_right (start_faults m m.start) _ l in
    record {
      known = no_left (unknown_types m) _ e;
      one_table = no_left (too_many cause.TooManyTables (table_space m)) (too_many cause.TooManyMemories (memory_space m)) ab;
      one_memory = no_right (too_many cause.TooManyTables (table_space m)) (too_many cause.TooManyMemories (memory_space m)) ab;
      constants = no_left (flat_map constant_expected (expressions m)) _ f;
      globals = no_left (flat_map unknown_global (expressions m)) _ h;
      types = no_left (flat_map type_mismatch (expressions m)) _ i;
      exports = no_left (flat_map (unknown_export m) m.exports) _ j;
      duplicates = no_left (duplicate_exports [] m.exports) _ k;
      start = no_left (start_faults m m.start) _ l;
      segments = no_left (unknown_segments m) _ n;
      elements = no_right (unknown_segments m) _ n;
    }

-- a test of bounds is asked for by a segment
pub used_by_elements : (m : Module) (es : List ElementEntry) → 0 < length es → tests_bounds (record m { elements = es }) ≡ true
used_by_elements m [] some = absurd (omega (arith, some))
used_by_elements m (e ∷ es) some = refl

pub used_by_segments : (m : Module) (ds : List SegmentEntry) → 0 < length ds → tests_bounds (record m { segments = ds }) ≡ true
used_by_segments m [] some = absurd (omega (arith, some))
used_by_segments m (d ∷ ds) some = or-true _
