-- What stands at a place of a unit's items, kind by kind.
use Rattle.std.proofs.Common.{get_or}
use Rattle.c_unit.proofs.Common.{Bor, CType, Helper, List, Name, NamedModule, None, Option, SegmentEntry, Some, Symbol, ap, arith, bodies}
use Rattle.c_unit.proofs.Common.{body_of, byte_segments, bytes_of, declaration, declared_symbols, drop, drop_front, export_func, from_init}
use Rattle.c_unit.proofs.Common.{get_front, get_numbered, global_imports, global_name, helper_of, helpers_of, imported_funcs, init_func}
use Rattle.c_unit.proofs.Common.{length, length-map, length-map-range_with_len, map, memory_imports, memory_name, numbered, numbered_many}
use Rattle.c_unit.proofs.Common.{option_map, pair_of, pointed, pointer_name, range_with_len, refl, slice_get, slice_get-map, slice_get_past}
use Rattle.c_unit.proofs.Common.{subst, suc, sym, table_imports, table_name, variable, zero, ℕ, ◌≡◌, ◌+◌, ◌-◌, ◌<◌, ◌≤◌, ◌∷◌, ◌++◌, ◌∙◌}
use Rattle.w2c_base.proofs.Lists.{get_mapped}
use Rattle.c_tree.specs.declared.tree.CType.TheVariants as c_type
use Rattle.c_tree.specs.Tree as tree
use Rattle.c_symbols.specs.Reached.{usable_symbol}
use Rattle.unit_definition.specs.Arrays.{array_of}
use Rattle.unit_definition.proofs.SectionLists.{tabs, mems, global_item, globals, memory_pointers, table_pointers, pointer_item}
use Rattle.unit_definition.proofs.SectionLists.{global_pointers}
use Rattle.unit_definition.proofs.SectionLists.{declarations, helpers, exports, parts}
use Rattle.c_init.specs.Init.{part_func, parts_of}
use Rattle.c_init.specs.Portions.{IsOf, part_of}
use Rattle.std.specs.List.{AllByRecursion}
use Rattle.w2c_base.proofs.OfEach.{all_at}
use Rattle.c_init.specs.declared.portion.Portion.{Portion}
use Rattle.c_symbols.proofs.Made.{stands_there}
use Rattle.unit_definition.proofs.Parted.{in_second, numbered_at}

-- a section has an item for each element of a list, made of the element and its place
pub record Lists {A : Type 0} (made : List A) (section : List tree.Item) (make : ℕ → A → tree.Item) : Type 0 where
  pub at : (n : ℕ) → slice_get section n ≡ option_map (make n) (slice_get made n)
  pub count : length section ≡ length made

option_twice : {A B C : Type 0} (f : B → C) (g : A → B) (o : Option A) → option_map f (option_map g o) ≡ option_map (λ a. f (g a)) o
option_twice f g None = refl
option_twice f g (Some a) = refl

of_each : {A : Type 0} (f : A → tree.Item) (made : List A) → Lists made (map f made) (λ n a. f a)
of_each f made = record { at = slice_get-map f made; count = length-map made f }

of_numbered : {A : Type 0} (f : ℕ × A → tree.Item) (made : List A) → Lists made (map f (numbered made)) (λ n a. f (n, a))
of_numbered f made = record {
  at = λ n. let start : 0 + n ≡ n = omega arith in
      slice_get-map f (numbered made) n
      ∙ ap (option_map f) (numbered_at 0 made n ∙ ap (λ m. option_map (λ x. (m, x)) (slice_get made n)) start)
      ∙ option_twice f (λ x. (n, x)) (slice_get made n);
  count = length-map (numbered made) f ∙ numbered_many 0 made;
}

-- the list was made before, of what the items are made of
of_made : {A B : Type 0} (g : A → B) (xs : List A) (made : List B) (section : List tree.Item) (make : ℕ → B → tree.Item)
    → made ≡ map g xs → Lists xs section (λ n a. make n (g a)) → Lists made section make
of_made g xs made section make is l = record {
  at = λ n. l.at n ∙ sym (ap (λ ys. option_map (make n) (slice_get ys n)) is ∙ ap (option_map (make n)) (slice_get-map g xs n)
      ∙ option_twice (make n) g (slice_get xs n));
  count = l.count ∙ sym (ap length is ∙ length-map xs g);
}

-- the items are made of what is seen of the list
of_seen : {A B : Type 0} (g : A → B) (f : B → tree.Item) (made : List A) (xs : List B) → map g made ≡ xs
    → Lists made (map f xs) (λ n a. f (g a))
of_seen g f made xs is = subst (λ xs. Lists made (map f xs) (λ n a. f (g a))) is (record {
  at = λ n. slice_get-map f (map g made) n ∙ ap (option_map f) (slice_get-map g made n) ∙ option_twice f g (slice_get made n);
  count = length-map (map g made) f ∙ length-map made g;
})

-- the items are made of what is seen of the list and of its places
of_made_numbered : {A B : Type 0} (g : A → B) (f : ℕ × B → tree.Item) (made : List A) (xs : List B) → map g made ≡ xs
    → Lists made (map f (numbered xs)) (λ n a. f (n, g a))
of_made_numbered g f made xs is = subst (λ xs. Lists made (map f (numbered xs)) (λ n a. f (n, g a))) is (record {
  at = λ n. (of_numbered f (map g made)).at n ∙ ap (option_map (λ b. f (n, b))) (slice_get-map g made n)
      ∙ option_twice (λ b. f (n, b)) g (slice_get made n);
  count = (of_numbered f (map g made)).count ∙ length-map made g;
})

-- what a look-up tells

-- what stands at a place, and behind the section
pub stands_at : {A : Type 0} {made : List A} {section : List tree.Item} {make : ℕ → A → tree.Item} → Lists made section make
    → (rest : List tree.Item) (items : List A) (n : ℕ) (a : A) (item : tree.Item) → items ≡ made → n < length items → a ≡ get_or items n a
    → item ≡ make n a → Some item ≡ slice_get (section ++ rest) n
stands_at {A} {made} {section} {make} l rest items n a item same lt is made_is = ap Some made_is ∙ sym (get_front section rest n (make n a)
    (l.at n ∙ ap (option_map (make n)) (stands_there made items n a same lt is)))

pub stands_past : {A : Type 0} {made : List A} {section : List tree.Item} {make : ℕ → A → tree.Item} → Lists made section make
    → (rest : List tree.Item) (items : List A) (n left : ℕ) → items ≡ made → left ≡ n - length items → length items ≤ n
    → slice_get rest left ≡ slice_get (section ++ rest) n
stands_past {A} {made} {section} {make} l rest items n left same left_is le =
    let many : length items ≡ length section = ap length same ∙ sym l.count in
    ap (slice_get rest) (left_is ∙ ap (λ k. n - k) many)
    ∙ sym (in_second section rest n (slice_get_past section n (omega (arith, le, many))))

-- ---- the sections

pub tables_listed : (m : NamedModule) → Lists m.tree.tables (tabs m) (λ n t. variable c_type.Tab table_name)
tables_listed m = of_each (λ t. variable c_type.Tab table_name) m.tree.tables

pub memories_listed : (m : NamedModule) → Lists m.tree.memories (mems m) (λ n t. variable c_type.Mem memory_name)
memories_listed m = of_each (λ t. variable c_type.Mem memory_name) m.tree.memories

pub globals_listed : (m : NamedModule) → Lists m.tree.globals (globals m) (λ n g. global_item m (n, g))
globals_listed m = of_numbered (global_item m) m.tree.globals

pub memory_pointers_listed : (m : NamedModule) (made : List (Option Name)) → made ≡ map (usable_symbol m) (memory_imports m.tree)
    → Lists made (memory_pointers m) (λ n a. variable c_type.PtrMem (pointer_name memory_name))
memory_pointers_listed m made is = of_made (usable_symbol m) (memory_imports m.tree) made (memory_pointers m)
    (λ n a. variable c_type.PtrMem (pointer_name memory_name)) is
    (of_each (λ i. variable c_type.PtrMem (pointer_name memory_name)) (memory_imports m.tree))

pub table_pointers_listed : (m : NamedModule) (made : List (Option Name)) → made ≡ map (usable_symbol m) (table_imports m.tree)
    → Lists made (table_pointers m) (λ n a. variable c_type.PtrTab (pointer_name table_name))
table_pointers_listed m made is = of_made (usable_symbol m) (table_imports m.tree) made (table_pointers m)
    (λ n a. variable c_type.PtrTab (pointer_name table_name)) is
    (of_each (λ i. variable c_type.PtrTab (pointer_name table_name)) (table_imports m.tree))

pub global_pointers_listed : (m : NamedModule) (made : List CType) → made ≡ map (pointed m.tree) (global_imports m.tree)
    → Lists made (global_pointers m) (λ n ty. variable ty (pointer_name (global_name n)))
global_pointers_listed m made is = of_made (pointed m.tree) (global_imports m.tree) made (global_pointers m)
    (λ n ty. variable ty (pointer_name (global_name n))) is (of_numbered (pointer_item m) (global_imports m.tree))

pub arrays_listed : (m : NamedModule) (made : List (ℕ × Bor SegmentEntry)) → map bytes_of made ≡ byte_segments m.tree
    → Lists made (map array_of (byte_segments m.tree)) (λ n d. array_of (bytes_of d))
arrays_listed m made is = of_seen bytes_of array_of made (byte_segments m.tree) is

pub declared_listed : (m : NamedModule) (made : List Symbol) → map pair_of made ≡ declared_symbols m
    → Lists made (declarations m) (λ n s. declaration (pair_of s))
declared_listed m made is = of_seen pair_of declaration made (declared_symbols m) is

pub helpers_listed : (m : NamedModule) (made : List Helper) → made ≡ helpers_of m.tree
    → Lists made (helpers m) (λ n which. tree.Function (helper_of which))
helpers_listed m made is = subst (λ xs. Lists made (map (λ which. tree.Function (helper_of which)) xs)
    (λ n which. tree.Function (helper_of which))) is (of_each (λ which. tree.Function (helper_of which)) made)

pub exports_listed : (m : NamedModule) → Lists m.tree.exports (exports m) (λ n e. tree.Function (export_func m e))
exports_listed m = of_each (λ e. tree.Function (export_func m e)) m.tree.exports

pub parts_listed : (m : NamedModule) (made : List Portion) → map (part_of m.tree) made ≡ parts_of m.tree
    → Lists made (parts m) (λ n p. tree.Function (part_func m.tree (n, part_of m.tree p)))
parts_listed m made is =
    of_made_numbered (part_of m.tree) (λ p. tree.Function (part_func m.tree p)) made (parts_of m.tree) is

-- as many portions as parts
pub as_many : (m : NamedModule) (made : List Portion) (n : ℕ) → map (part_of m.tree) made ≡ parts_of m.tree → n ≡ length made
    → n ≡ length (parts_of m.tree)
as_many m made n is count = count ∙ sym (length-map made (part_of m.tree)) ∙ ap length is

-- one of the portions that are the module's
pub own_at : (m : NamedModule) (made items : List Portion) (n : ℕ) (a : Portion) → AllByRecursion (IsOf m.tree) made → items ≡ made
    → n < length items → a ≡ get_or items n a → IsOf m.tree a
own_at m made items n a all same lt is = all_at (IsOf m.tree) made n a all (stands_there made items n a same lt is)

-- ---- functions by their numbers

pub func_there : (m : NamedModule) (f : tree.Func → tree.Item) (rest : List tree.Item) (n : ℕ) → n < length m.tree.funcs
    → Some (f (body_of m.tree m.name (imported_funcs m.tree + n))) ≡ slice_get (map f (bodies m) ++ rest) n
func_there m f rest n lt =
    sym (get_front (map f (bodies m)) rest n (f (body_of m.tree m.name (imported_funcs m.tree + n))) (get_mapped f (bodies m) n
    (body_of m.tree m.name (imported_funcs m.tree + n))
    (get_mapped (body_of m.tree m.name) (range_with_len (imported_funcs m.tree) (length m.tree.funcs)) n (imported_funcs m.tree + n)
    (get_numbered (imported_funcs m.tree) (length m.tree.funcs) n lt))))

pub func_past : (m : NamedModule) (f : tree.Func → tree.Item) (rest : List tree.Item) (n : ℕ) → length m.tree.funcs ≤ n
    → slice_get rest (n - length m.tree.funcs) ≡ slice_get (map f (bodies m) ++ rest) n
func_past m f rest n le =
    let count : length (map f (bodies m)) ≡ length m.tree.funcs =
    length-map (bodies m) f ∙ length-map-range_with_len (body_of m.tree m.name) (imported_funcs m.tree) (length m.tree.funcs) in
    ap (λ k. slice_get rest (n - k)) (sym count)
    ∙ sym (in_second (map f (bodies m)) rest n (slice_get_past (map f (bodies m)) n (omega (arith, le, count))))

-- ---- the init function

pub init_there : (m : NamedModule) (n : ℕ) (item : tree.Item) → n ≡ 0 → item ≡ tree.Function (init_func m)
    → Some item ≡ slice_get (from_init m) n
init_there m n item first is = ap Some is ∙ ap (λ k. slice_get (from_init m) k) (sym first)

pub init_past : (m : NamedModule) (n : ℕ) → (n ≡ 0 → ⊥) → None ≡ slice_get (from_init m) n
init_past m zero other = absurd (other refl)
init_past m (suc n) other = refl

-- ---- the next item

pub gives_next : (all : List tree.Item) (n after : ℕ) (item : tree.Item) → Some item ≡ slice_get all n → after ≡ n + 1
    → drop n all ≡ item ∷ drop after all
gives_next all n after item is next = drop_front all n item (sym is) ∙ ap (λ k. item ∷ drop k all) (sym next)
