-- The items of a unit one after the other.
use Rattle.unit_definition.proofs.Common.{◌≡◌, ℕ, List, [], ◌∷◌, ◌++◌, map, drop, slice_get, None, flat_map, sym, refl, ap, ◌∙◌}
use Rattle.unit_definition.proofs.Common.{append_assoc, numbered, Import, LimitsEntry, SegmentEntry, Name, CType, NamedModule, global_name}
use Rattle.unit_definition.proofs.Common.{memory_name, table_name, global_imports, import_type, memory_imports, table_imports, pointer_name}
use Rattle.unit_definition.proofs.Common.{pointers_of, bytes_if, data_item, data_of, global_item, items, variable, from_data, from_declared}
use Rattle.unit_definition.proofs.Common.{from_tables, global_pointer, map-append}
use Rattle.c_tree.specs.declared.tree.CType.TheVariants as c_type
use Rattle.c_tree.specs.Tree as tree
use Rattle.unit_definition.specs.Arrays.{array_of}
use Rattle.unit_definition.proofs.Parted.{past_all}

pub map_twice : {A B C : Type 0} (g : B → C) (f : A → B) (xs : List A) → map g (map f xs) ≡ map (λ x. g (f x)) xs
map_twice g f [] = refl
map_twice g f (x ∷ xs) = ap (λ zs. g (f x) ∷ zs) (map_twice g f xs)

arrays : (ds : List (ℕ × SegmentEntry)) → map array_of (flat_map bytes_if ds) ≡ flat_map data_item ds
arrays [] = refl
arrays (d ∷ ds) = map-append array_of (bytes_if d) (flat_map bytes_if ds) ∙ ap (λ xs. map array_of (bytes_if d) ++ xs) (arrays ds)
    ∙ ap (λ xs. xs ++ flat_map data_item ds) (one d.1.bytes)
  where
    one : (bytes : List ℕ) → map array_of (elim bytes [ [] ↦ [] | b ∷ rest ↦ (d.0, d.1.bytes) ∷ [] ]) ≡
        (elim bytes [ [] ↦ [] | b ∷ rest ↦ array_of (d.0, d.1.bytes) ∷ [] ])
    one [] = refl
    one (b ∷ rest) = refl

abbrev as_variable : CType × Name → tree.Item
as_variable p = variable p.0 p.1

pointers : (m : NamedModule) (rest : List tree.Item) → map as_variable (pointers_of m.tree) ++ rest
    ≡ map (λ (i : Import). variable c_type.PtrMem (pointer_name memory_name)) (memory_imports m.tree)
    ++ (map (λ (i : Import). variable c_type.PtrTab (pointer_name table_name)) (table_imports m.tree)
    ++ (map (global_pointer m) (numbered (global_imports m.tree)) ++ rest))
pointers m rest =
    let memories : List (CType × Name) = map (λ (i : Import). (c_type.PtrMem, pointer_name memory_name)) (memory_imports m.tree) in
    let tables : List (CType × Name) = map (λ (i : Import). (c_type.PtrTab, pointer_name table_name)) (table_imports m.tree) in
    let globals : List (CType × Name) = map (λ (i : ℕ × Import). ((import_type m.tree i.1).result, pointer_name (global_name i.0)))
    (numbered (global_imports m.tree)) in
    three memories tables globals
    ∙ ap (λ xs. xs ++ (map as_variable tables ++ (map as_variable globals ++ rest))) (map_twice as_variable _ (memory_imports m.tree))
    ∙ ap (λ xs. map (λ (i : Import). variable c_type.PtrMem (pointer_name memory_name)) (memory_imports m.tree) ++
    (xs ++ (map as_variable globals ++ rest))) (map_twice as_variable _ (table_imports m.tree))
    ∙ ap (λ xs. map (λ (i : Import). variable c_type.PtrMem (pointer_name memory_name)) (memory_imports m.tree) ++
    (map (λ (i : Import). variable c_type.PtrTab (pointer_name table_name)) (table_imports m.tree) ++ (xs ++ rest)))
    (map_twice as_variable _ (numbered (global_imports m.tree)))
  where
    three : (a b c : List (CType × Name)) → map as_variable (a ++ (b ++ c)) ++ rest ≡ map as_variable a ++
        (map as_variable b ++ (map as_variable c ++ rest))
    three a b c =
        ap (λ xs. xs ++ rest) (map-append as_variable a (b ++ c) ∙ ap (λ xs. map as_variable a ++ xs) (map-append as_variable b c))
        ∙ append_assoc (map as_variable a) (map as_variable b ++ map as_variable c) rest
        ∙ ap (λ xs. map as_variable a ++ xs) (append_assoc (map as_variable b) (map as_variable c) rest)

-- all items are those from the tables on
pub all_tails : (m : NamedModule) → from_tables m ≡ items m
all_tails m =
    let tables : List tree.Item = map (λ (t : LimitsEntry). variable c_type.Tab table_name) m.tree.tables in
    let memories : List tree.Item = map (λ (t : LimitsEntry). variable c_type.Mem memory_name) m.tree.memories in
    let globals : List tree.Item = map (global_item m.tree) (numbered m.tree.globals) in
    sym (four tables memories globals (map as_variable (pointers_of m.tree)) (data_of m.tree ++ from_declared m)
    ∙ ap (λ xs. tables ++ (memories ++ (globals ++ xs)))
    (ap (λ xs. map as_variable (pointers_of m.tree) ++ (xs ++ from_declared m)) (sym (arrays (numbered m.tree.segments)))
    ∙ pointers m (from_data m)))
  where
    four : (a b c d e : List tree.Item) → (a ++ (b ++ (c ++ d))) ++ e ≡ a ++ (b ++ (c ++ (d ++ e)))
    four a b c d e =
        append_assoc a (b ++ (c ++ d)) e ∙ ap (λ xs. a ++ xs) (append_assoc b (c ++ d) e ∙ ap (λ xs. b ++ xs) (append_assoc c d e))

pub gives_none : (all : List tree.Item) (n : ℕ) → None ≡ slice_get all n → drop n all ≡ []
gives_none all n is = past_all all n (sym is)
