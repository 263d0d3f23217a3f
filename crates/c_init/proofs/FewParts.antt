-- How many parts an init function has at most: their numbers have room.
use Rattle.std.proofs.Common.{◌*◌}
use Rattle.std.proofs.lemmas.List.FromFn.{length-map-range_with_len}
use Rattle.c_init.proofs.Common.{ℕ, ◌+◌, ◌^◌, ◌<◌, ◌≤◌, Bool, true, false, List, [], ◌∷◌, ◌++◌, length, map, if◌then◌else◌}
use Rattle.c_init.proofs.Common.{flat_map, filter, arith, length-append, length-map, AllByRecursion, numbered, filter_few, Module}
use Rattle.c_init.proofs.Common.{WithinLimits}
use Rattle.w2c_base.proofs.NumberedLists.{numbered_many}
use Rattle.wasm_tree.specs.declared.entries.ElementEntry.{ElementEntry}
use Rattle.c_init.specs.Init.{all_parts, bytes_part, data_tests_part, element_tests_part, elements_in, elements_of, elements_part}
use Rattle.c_init.specs.Init.{globals_part, is_large, parts_of, piece, piece_count, pieces, some_bytes}
use Rattle.c_init.proofs.PieceLists.{many_in}

piece_few : (n : ℕ) → piece_count n ≤ n
piece_few n = omega arith

pieces_few : {A : Type 0} (xs : List A) → length (pieces xs) ≤ length xs
pieces_few xs =
    let e = length-map-range_with_len (piece xs) 0 (piece_count (length xs)) in
    let few = piece_few (length xs) in
    omega (arith, e, few)

pub mapped_few : {A B : Type 0} (f : A → B) (xs : List A) (n : ℕ) → length xs ≤ n → length (map f xs) ≤ n
mapped_few f xs n few = let e = length-map xs f in omega (arith, e, few)

pub joined_few : {A : Type 0} (xs ys : List A) (a b : ℕ) → length xs ≤ a → length ys ≤ b → length (xs ++ ys) ≤ a + b
joined_few xs ys a b few others = let e = length-append xs ys in omega (arith, e, few, others)

elements_few : (es : List ElementEntry) → AllByRecursion (λ e. length e.funcs ≤ 8388608) es
    → length (flat_map elements_in es) ≤ length es * 8388608
elements_few [] few = omega arith
elements_few (e ∷ es) few =
    let both = length-append (elements_in e) (flat_map elements_in es) in
    let first = many_in e in
    let others = elements_few es few.1 in
    omega (arith, both, first, few.0, others)

all_few : (m : Module) (n : ℕ) → length (elements_of m) ≤ n
    → length (all_parts m) ≤ length m.globals + (length m.elements + (length m.segments + (n + length m.segments)))
all_few m n few =
    joined_few (map (globals_part m) (pieces (numbered m.globals))) _ (length m.globals) _
    (mapped_few (globals_part m) (pieces (numbered m.globals)) (length m.globals)
    (let p = pieces_few (numbered m.globals) in let k = numbered_many 0 m.globals in omega (arith, p, k)))
    (joined_few (map (element_tests_part m) (pieces m.elements)) _ (length m.elements) _
    (mapped_few (element_tests_part m) (pieces m.elements) (length m.elements) (pieces_few m.elements))
    (joined_few (map (data_tests_part m) (pieces m.segments)) _ (length m.segments) _
    (mapped_few (data_tests_part m) (pieces m.segments) (length m.segments) (pieces_few m.segments))
    (joined_few (map (elements_part m) (pieces (elements_of m))) _ n _
    (mapped_few (elements_part m) (pieces (elements_of m)) n (let p = pieces_few (elements_of m) in omega (arith, p, few)))
    (mapped_few (bytes_part m) (filter some_bytes (pieces (numbered m.segments))) (length m.segments)
    (let f = filter_few some_bytes (pieces (numbered m.segments)) in let p = pieces_few (numbered m.segments) in
    let k = numbered_many 0 m.segments in omega (arith, f, p, k))))))

pub few_parts : (m : Module) → WithinLimits m → length (parts_of m) < 2 ^ 62
few_parts m within = by (is_large m)
  where
    by : (large : Bool) → length (if large then all_parts m else []) < 2 ^ 62
    by false = omega arith
    by true =
        let elements = elements_few m.elements within.elements in
        let few = all_few m (length m.elements * 8388608) elements in
        omega (arith, few, within.globals, within.few_elements, within.segments)
