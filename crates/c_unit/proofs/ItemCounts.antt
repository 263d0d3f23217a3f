-- How many items the unit of a checked module has: their numbers have room.
use Rattle.c_unit.proofs.Common.{◌≡◌, ℕ, suc, ◌+◌, ◌^◌, ◌<◌, ◌≤◌, Bool, true, false, List, [], ◌∷◌, map, length, if◌then◌else◌}
use Rattle.c_unit.proofs.Common.{slice_get, Some, zip, flat_map, sym, refl, arith, length-append, length-map-range_with_len}
use Rattle.c_unit.proofs.Common.{slice_get_within, list_any, range_with_len, numbered, imported_funcs, is_global_import, is_memory_import}
use Rattle.c_unit.proofs.Common.{is_table_import, BodyEntry, SegmentEntry, Module, Name, is_among, NamedModule, HELPERS, declared_symbols}
use Rattle.c_unit.proofs.Common.{declared_type, firsts, global_imports, import_symbol, memory_imports, symbol_type, table_imports}
use Rattle.c_unit.proofs.Common.{filter_few, body_of, any_in, calls_helper, helpers_of, pointers_of, bodies, data_item, data_of, items}
use Rattle.c_unit.proofs.Common.{objects_of, part_items, length-map, leb-true}
use Rattle.c_tree.specs.Tree as tree
use Rattle.c_init.specs.Entries.{entries}
use Rattle.c_init.proofs.FewParts.{joined_few, mapped_few}
use Rattle.c_init.specs.Init.{parts_of}

-- each brings one at most
one_each : {A B : Type 0} (brings : A → List B) → ((x : A) → length (brings x) ≤ 1) → (xs : List A)
    → length (flat_map brings xs) ≤ length xs
one_each brings one [] = omega arith
one_each brings one (x ∷ xs) =
    let e = length-append (brings x) (flat_map brings xs) in omega (arith, e, one x, one_each brings one xs)

zip_few : {A B : Type 0} (ks : List A) (xs : List B) → length (zip ks xs) ≤ length xs
zip_few [] xs = omega arith
zip_few (k ∷ ks) [] = omega arith
zip_few (k ∷ ks) (x ∷ xs) = let e = zip_few ks xs in omega (arith, e)

numbered_few : {A : Type 0} (xs : List A) → length (numbered xs) ≤ length xs
numbered_few xs = zip_few (range_with_len 0 (length xs)) xs

one_array : (d : ℕ × SegmentEntry) → length (data_item d) ≤ 1
one_array d = at d.1.bytes
  where
    at : (bytes : List ℕ) → length (data_item (d.0, record d.1 { bytes = bytes })) ≤ 1
    at [] = omega arith
    at (b ∷ rest) = omega arith

firsts_few : (seen names : List Name) → length (firsts seen names) ≤ length names
firsts_few seen [] = omega arith
firsts_few seen (name ∷ names) = go (is_among name seen) (firsts_few seen names) (firsts_few (name ∷ seen) names)
  where
    go : (b : Bool) → length (firsts seen names) ≤ length names → length (firsts (name ∷ seen) names) ≤ length names
        → length (if b then firsts seen names else (name ∷ firsts (name ∷ seen) names)) ≤ suc (length names)
    go true skipped kept = omega (arith, skipped)
    go false skipped kept = omega (arith, kept)

-- far more than there are
helpers_at_most : length HELPERS ≤ 1000
helpers_at_most = leb-true (length HELPERS) 1000 refl

data_few : (m : Module) → length (data_of m) ≤ length m.segments
data_few m =
    let ones = one_each data_item one_array (numbered m.segments) in
    let few = numbered_few m.segments in
    omega (arith, ones, few)

declared_few : (m : NamedModule) → length (declared_symbols m) ≤ length m.tree.imports
declared_few m =
    let names = map import_symbol m.tree.imports in
    mapped_few (λ name. (name, declared_type (symbol_type m name))) (firsts [] names) (length m.tree.imports)
    (let few = firsts_few [] names in let e = length-map m.tree.imports import_symbol in omega (arith, few, e))

helpers_few : (m : Module) → length (helpers_of m) ≤ 1000
helpers_few m =
    let few = filter_few (λ which. list_any (λ (b : BodyEntry). any_in (calls_helper which) b.code) m.bodies) HELPERS in
    omega (arith, few, helpers_at_most)

pointers_few : (m : Module) → length (pointers_of m) ≤ length m.imports + (length m.imports + length m.imports)
pointers_few m =
    let n = length m.imports in
    joined_few _ _ n (n + n) (mapped_few _ (memory_imports m) n (filter_few is_memory_import m.imports))
    (joined_few _ _ n n (mapped_few _ (table_imports m) n (filter_few is_table_import m.imports))
    (mapped_few _ (numbered (global_imports m)) n
    (let few = numbered_few (global_imports m) in let some = filter_few is_global_import m.imports in omega (arith, few, some))))

objects_few : (m : Module) → length (objects_of m (pointers_of m)) ≤ length m.tables + (length m.memories + (length m.globals
    + (length m.imports + (length m.imports + length m.imports))))
objects_few m =
    joined_few _ _ (length m.tables) _ (mapped_few _ m.tables _ (omega arith))
    (joined_few _ _ (length m.memories) _ (mapped_few _ m.memories _ (omega arith))
    (joined_few _ _ (length m.globals) _ (mapped_few _ (numbered m.globals) (length m.globals) (numbered_few m.globals))
    (mapped_few _ (pointers_of m) _ (pointers_few m))))

bodies_few : (m : NamedModule) → length (bodies m) ≤ length m.tree.funcs
bodies_few m = let e = length-map-range_with_len (body_of m.tree m.name) (imported_funcs m.tree) (length m.tree.funcs) in omega (arith, e)

parts_few : (m : Module) → length (part_items m) ≤ length (parts_of m)
parts_few m = mapped_few _ (numbered (parts_of m)) (length (parts_of m)) (numbered_few (parts_of m))

few_items : (n : NamedModule) → entries n.tree < 2 ^ 32 → length (parts_of n.tree) < 2 ^ 62 → length (items n) < 2 ^ 64
few_items n few parts =
    let m = n.tree in
    let i = length m.imports in
    let all : length (items n) ≤ (length m.tables + (length m.memories + (length m.globals + (i + (i + i))))) + (length m.segments + (i
    + (length m.funcs + (1000 + (length m.funcs + (length m.exports + (length (parts_of m) + 1))))))) =
    joined_few _ _ _ _ (objects_few m)
    (joined_few _ _ _ _ (data_few m)
    (joined_few _ _ _ _ (mapped_few _ (declared_symbols n) _ (declared_few n))
    (joined_few _ _ _ _ (mapped_few _ (bodies n) _ (bodies_few n))
    (joined_few _ _ _ _ (mapped_few _ (helpers_of m) _ (helpers_few m))
    (joined_few _ _ _ _ (mapped_few _ (bodies n) _ (bodies_few n))
    (joined_few _ _ _ _ (mapped_few _ m.exports _ (omega arith))
    (joined_few _ _ _ _ (parts_few m) (omega arith)))))))) in
    omega (arith, all, few, parts)

-- behind an item is a number
pub next_number : (n : NamedModule) (number : ℕ) (item : tree.Item) → entries n.tree < 2 ^ 32 → length (parts_of n.tree) < 2 ^ 62
    → Some item ≡ slice_get (items n) number → number + 1 < 2 ^ 64
next_number n number item few parts is =
    let there = slice_get_within (items n) number item (sym is) in
    let all = few_items n few parts in
    omega (arith, all, there)
