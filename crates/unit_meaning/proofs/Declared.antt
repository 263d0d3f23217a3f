-- The variables that a unit declares for its module, and its arrays of data, are found by their names (C11, 6.9.2).
use Rattle.unit_meaning.proofs.Common.{◌≡◌, ℕ, zero, suc, ◌+◌, ◌^◌, ◌<◌, Bool, true, false, ◌≢◌, List, [], ◌∷◌, ◌++◌, map, length, is_some}
use Rattle.unit_meaning.proofs.Common.{if◌then◌else◌, slice_get, Some, None, Option, option_map, zip, flat_map, filter_map, bytes_eq, refl}
use Rattle.unit_meaning.proofs.Common.{ap, ◌∙◌, append_assoc, arith, decimal_injective, none-some, same_Some, slice_get_within, cons_option}
use Rattle.unit_meaning.proofs.Common.{AllByRecursion, range_with_len, ⊤, all_append, get_within, some_first, if_found, named, numbered}
use Rattle.unit_meaning.proofs.Common.{value, ValType, global_space, imported_global_space, imported_globals, GlobalEntry, LimitsEntry}
use Rattle.unit_meaning.proofs.Common.{SegmentEntry, Module, Name, CType, LinkedSet, NamedModule, bytes_differ, bytes_equal, array_bytes}
use Rattle.unit_meaning.proofs.Common.{array_named, c_type_of, global_name, memory_name, table_name, global_imports, memory_imports, items}
use Rattle.unit_meaning.proofs.Common.{pointer_type, table_imports, vars_in, get_behind, get_front, get_mapped, global_count, pointer_name}
use Rattle.unit_meaning.proofs.Common.{slice_get_past, pointers_of, data_name, zero_like, data_of, objects_of, IsAccepted, program_of}
use Rattle.w2c_base.specs.declared.value.ValType.TheVariants as type
use Rattle.c_tree.specs.declared.tree.CType.TheVariants as c_type
use Rattle.c_tree.specs.Tree as c
use Rattle.c_meaning.specs.State as state
use Rattle.c_meaning.specs.Machine as machine
use Rattle.init_meaning.specs.Zeros.{held}
use Rattle.init_meaning.specs.Declared.{IsDeclared}
use Rattle.unit_definition.proofs.KnownNames.{imported_global}
use Rattle.unit_definition.proofs.Knowledge.{own_global, imported_global_is, imported_memory_is, imported_table_is}
use Rattle.c_init.proofs.Small.{behind_letter, all_images}

-- ---- what is found of lists of items

-- none of the items gives anything
abbrev GivesNone : {A B : Type 0} → (A → Option B) → List A → Type 0
GivesNone f xs = AllByRecursion (λ x. f x ≡ None) xs

skip : {A B : Type 0} (f : A → Option B) (xs ys : List A) → GivesNone f xs → filter_map f (xs ++ ys) ≡ filter_map f ys
skip f [] ys none = refl
skip f (x ∷ xs) ys none = rw none.0 (skip f xs ys none.1)

-- ---- tables, memories, globals

abbrev table_var : LimitsEntry → c.Item
table_var t = c.Var c_type.Tab table_name None

abbrev memory_var : LimitsEntry → c.Item
memory_var t = c.Var c_type.Mem memory_name None

abbrev global_var : Module → ℕ × GlobalEntry → c.Item
global_var m g = c.Var (c_type_of g.1.ty) (global_name (imported_globals m + g.0)) None

abbrev pointer_var : CType × Name → c.Item
pointer_var p = c.Var p.0 p.1 None

table_there : (tables : List LimitsEntry) (rest : List c.Item) → 0 < length tables
    → named table_name (filter_map machine.file_table (map table_var tables ++ rest)) ≡ Some machine.no_table
table_there [] rest some = absurd (omega (arith, some))
table_there (t ∷ tables) rest some = refl

memory_there : (tables memories : List LimitsEntry) (rest : List c.Item) → 0 < length memories
    → named memory_name (filter_map machine.file_memory (map table_var tables ++ (map memory_var memories ++ rest)))
    ≡ Some machine.no_memory
memory_there tables memories rest some =
    ap (named memory_name) (skip machine.file_memory (map table_var tables) (map memory_var memories ++ rest)
    (all_images _ table_var tables (λ t. refl))) ∙ first memories some
  where
    first : (memories : List LimitsEntry) → 0 < length memories
        → named memory_name (filter_map machine.file_memory (map memory_var memories ++ rest)) ≡ Some machine.no_memory
    first [] some = absurd (omega (arith, some))
    first (t ∷ memories) some = refl

-- ---- the unit's objects

-- what stands behind the unit's objects
joined : (m : Module) (rest : List c.Item) → objects_of m (pointers_of m) ++ rest ≡ map table_var m.tables ++
    (map memory_var m.memories ++ (map (global_var m) (numbered m.globals) ++ (map pointer_var (pointers_of m) ++ rest)))
joined m rest =
    append_assoc (map table_var m.tables) (map memory_var m.memories ++ globals_and_pointers) rest
    ∙ ap (λ items. map table_var m.tables ++ items) (append_assoc (map memory_var m.memories) globals_and_pointers rest
    ∙ ap (λ items. map memory_var m.memories ++ items)
    (append_assoc (map (global_var m) (numbered m.globals)) (map pointer_var (pointers_of m)) rest))
  where
    globals_and_pointers : List c.Item
    globals_and_pointers = map (global_var m) (numbered m.globals) ++ map pointer_var (pointers_of m)

-- a variable of the type that is found among variables without initialisers holds the type's zero
abbrev IsUnset : c.Item → Type 0
IsUnset (c.Array name count bytes) = ⊥
IsUnset (c.Var t name None) = ⊤
IsUnset (c.Var t name (Some number)) = ⊥
IsUnset (c.Function f) = ⊥

found_unset : (q : Name) (ty : CType) (initial : state.CValue) (vars rest : List c.Item) → AllByRecursion IsUnset vars
    → named q (vars_in vars) ≡ Some ty → machine.zero_of ty ≡ Some initial
    → named q (filter_map machine.file_var (vars ++ rest)) ≡ Some initial
found_unset q ty initial [] rest unset found is = absurd (none-some ty found)
found_unset q ty initial (c.Array name count bytes ∷ vars) rest unset found is = absurd unset.0
found_unset q ty initial (c.Var t name (Some number) ∷ vars) rest unset found is = absurd unset.0
found_unset q ty initial (c.Function f ∷ vars) rest unset found is = absurd unset.0
found_unset q ty initial (c.Var t name None ∷ vars) rest unset found is =
    go (bytes_eq name q) refl found (λ found. found_unset q ty initial vars rest unset.1 found is)
  where
    others : List (Name × state.CValue)
    others = filter_map machine.file_var (vars ++ rest)

    here : bytes_eq name q ≡ true → t ≡ ty
        → named q (cons_option (option_map (λ (v : state.CValue). (name, v)) (machine.zero_of t)) others) ≡ Some initial
    here equal same =
        ap (λ (o : Option state.CValue). named q (cons_option (option_map (λ (v : state.CValue). (name, v)) o) others))
        (ap machine.zero_of same ∙ is) ∙ ap (λ b. if b then Some initial else named q others) equal

    behind : bytes_eq name q ≡ false → named q others ≡ Some initial → (o : Option state.CValue)
        → named q (cons_option (option_map (λ (v : state.CValue). (name, v)) o) others) ≡ Some initial
    behind differ more None = more
    behind differ more (Some v) = ap (λ b. if b then Some v else named q others) differ ∙ more

    go : (b : Bool) → bytes_eq name q ≡ b → (if b then Some t else named q (vars_in vars)) ≡ Some ty
        → (named q (vars_in vars) ≡ Some ty → named q others ≡ Some initial)
        → named q (cons_option (option_map (λ (v : state.CValue). (name, v)) (machine.zero_of t)) others) ≡ Some initial
    go true equal found more = here equal (same_Some t ty found)
    go false differ found more = behind differ (more found) (machine.zero_of t)

objects_unset : (m : Module) (pointers : List (CType × Name)) → AllByRecursion IsUnset (objects_of m pointers)
objects_unset m pointers =
    all_append IsUnset _ _ (all_images IsUnset _ m.tables (λ x. tt))
    (all_append IsUnset _ _ (all_images IsUnset _ m.memories (λ x. tt))
    (all_append IsUnset _ _ (all_images IsUnset _ (numbered m.globals) (λ x. tt)) (all_images IsUnset _ pointers (λ x. tt))))

none_past : {A : Type 0} (xs : List A) (k : ℕ) → is_some (slice_get xs (length xs + k)) ≡ false
none_past xs k = ap is_some (slice_get_past xs (length xs + k) (omega arith))

-- a list that begins with the unit's objects declares them
declares : (m : NamedModule) → IsAccepted m → (rest : List c.Item)
    → IsDeclared m.tree (machine.objects_of (objects_of m.tree (pointers_of m.tree) ++ rest))
declares m a rest = record {
  table = λ some. rw whole (table_there m.tree.tables _ some);
  memory = λ some. rw whole (memory_there m.tree.tables m.tree.memories _ some);
  globals = λ k e is. holds (global_name (imported_globals m.tree + k)) (c_type_of e.ty) (state.Number (value e.ty 0))
      (own_global m a (imported_globals m.tree + k) (e.ty, e.mutable) (in_space k e is) (none_past (global_imports m.tree) k))
      (number_zero e.ty) (number_like e.ty);
  table_pointer = λ some. holds (pointer_name table_name) c_type.PtrTab (state.Pointer None)
      (imported_table_is m a (some_first (table_imports m.tree) some)) refl refl;
  memory_pointer = λ some. holds (pointer_name memory_name) c_type.PtrMem (state.Pointer None)
      (imported_memory_is m a (some_first (memory_imports m.tree) some)) refl refl;
  global_pointers = λ k less.
      let i = get_within (global_imports m.tree) k less in
      let g = imported_global m.tree.imports k i.0 i.1 in
      holds (pointer_name (global_name k)) (pointer_type g.1) (state.Pointer None)
      (imported_global_is m a k (g.1, g.0) (get_front (imported_global_space m.tree) _ k (g.1, g.0) g.2) (ap is_some i.1))
      (pointer_zero g.1) refl;
}
  where
    whole : objects_of m.tree (pointers_of m.tree) ++ rest ≡ map table_var m.tree.tables ++
        (map memory_var m.tree.memories ++
        (map (global_var m.tree) (numbered m.tree.globals) ++ (map pointer_var (pointers_of m.tree) ++ rest)))
    whole = joined m.tree rest

    holds : (q : Name) (ty : CType) (initial : state.CValue) → named q (vars_in (objects_of m.tree (pointers_of m.tree))) ≡ Some ty
        → machine.zero_of ty ≡ Some initial → zero_like initial ≡ initial
        → held q (filter_map machine.file_var (objects_of m.tree (pointers_of m.tree) ++ rest)) ≡ Some initial
    holds q ty initial found is like =
        ap (option_map zero_like) (found_unset q ty initial (objects_of m.tree (pointers_of m.tree)) rest
        (objects_unset m.tree (pointers_of m.tree)) found is) ∙ ap Some like

    number_zero : (t : ValType) → machine.zero_of (c_type_of t) ≡ Some (state.Number (value t 0))
    number_zero type.I32 = refl
    number_zero type.I64 = refl

    number_like : (t : ValType) → zero_like (state.Number (value t 0)) ≡ state.Number (value t 0)
    number_like type.I32 = refl
    number_like type.I64 = refl

    pointer_zero : (t : ValType) → machine.zero_of (pointer_type t) ≡ Some (state.Pointer None)
    pointer_zero type.I32 = refl
    pointer_zero type.I64 = refl

    in_space : (k : ℕ) (e : GlobalEntry) → slice_get m.tree.globals k ≡ Some e
        → slice_get (global_space m.tree) (imported_globals m.tree + k) ≡ Some (e.ty, e.mutable)
    in_space k e is =
        ap (λ count. slice_get (global_space m.tree) (count + k)) (global_count m.tree.imports)
        ∙ (get_behind (imported_global_space m.tree) (map (λ (g : GlobalEntry). (g.ty, g.mutable)) m.tree.globals) k
        ∙ get_mapped (λ (g : GlobalEntry). (g.ty, g.mutable)) m.tree.globals k e is)

pub units_declare : (m : NamedModule) → IsAccepted m → IsDeclared m.tree (machine.objects_of (items m))
units_declare m a = declares m a _

-- ---- arrays of data

abbrev array_of : ℕ × SegmentEntry → List c.Item
array_of d = elim d.1.bytes [ [] ↦ [] | b ∷ bytes ↦ c.Array (data_name d.0) (length d.1.bytes) d.1.bytes ∷ [] ]

arrays_differ : (j k : ℕ) → j < 2 ^ 64 → k < 2 ^ 64 → j ≢ k → bytes_eq (data_name j) (data_name k) ≡ false
arrays_differ j k few less differ = bytes_differ (data_name j) (data_name k)
    (λ e. differ (decimal_injective j k few less (ap behind_letter e)))

other_array : (name : Name) (i : ℕ) (d : SegmentEntry) → bytes_eq (data_name i) name ≡ false
    → GivesNone (array_bytes name) (array_of (i, d))
other_array name i d differ = go d.bytes
  where
    go : (bytes : List ℕ) → GivesNone (array_bytes name)
        (elim bytes [ [] ↦ [] | b ∷ bytes ↦ c.Array (data_name i) (length d.bytes) d.bytes ∷ [] ])
    go [] = tt
    go (b ∷ bytes) = (ap (λ t. if t then Some d.bytes else None) differ, tt)

this_array : (i : ℕ) (d : SegmentEntry) (rest : List c.Item) → 0 < length d.bytes
    → slice_get (filter_map (array_bytes (data_name i)) (array_of (i, d) ++ rest)) 0 ≡ Some d.bytes
this_array i d rest some = go d.bytes some
  where
    go : (bytes : List ℕ) → 0 < length bytes → slice_get (filter_map (array_bytes (data_name i))
        ((elim bytes as (λ x. List c.Item) [ [] ↦ [] | b ∷ bytes ↦ c.Array (data_name i) (length d.bytes) d.bytes ∷ [] ]) ++ rest)) 0
        ≡ Some d.bytes
    go [] some = absurd (omega (arith, some))
    go (b ∷ bytes) some =
        ap (λ t. slice_get (cons_option (if t then Some d.bytes else None) (filter_map (array_bytes (data_name i)) rest)) 0)
        (bytes_equal (data_name i))

array_there : (i k : ℕ) (ds : List SegmentEntry) (d : SegmentEntry) (rest : List c.Item) → slice_get ds k ≡ Some d → 0 < length d.bytes
    → i + length ds < 2 ^ 64
    → slice_get (filter_map (array_bytes (data_name (i + k))) (flat_map array_of (zip (range_with_len i (length ds)) ds) ++ rest)) 0
    ≡ Some d.bytes
array_there i k [] d rest at some few = absurd (none-some d at)
array_there i zero (x ∷ ds) d rest at some few =
    let same : i + 0 ≡ i = omega arith in
    let is : x ≡ d = same_Some x d at in
    let others : List c.Item = flat_map array_of (zip (range_with_len (i + 1) (length ds)) ds) in
    ap (λ items. slice_get (filter_map (array_bytes (data_name (i + 0))) items) 0) (append_assoc (array_of (i, x)) others rest)
    ∙ ap (λ j. slice_get (filter_map (array_bytes (data_name j)) (array_of (i, x) ++ (others ++ rest))) 0) same
    ∙ ap (λ x. slice_get (filter_map (array_bytes (data_name i)) (array_of (i, x) ++ (others ++ rest))) 0) is
    ∙ this_array i d (others ++ rest) some
array_there i (suc k) (x ∷ ds) d rest at some few =
    let next : i + suc k ≡ i + 1 + k = omega arith in
    let others : List c.Item = flat_map array_of (zip (range_with_len (i + 1) (length ds)) ds) in
    let within : k < length ds = slice_get_within ds k d at in
    ap (λ items. slice_get (filter_map (array_bytes (data_name (i + suc k))) items) 0) (append_assoc (array_of (i, x)) others rest)
    ∙ ap (λ items. slice_get items 0) (skip (array_bytes (data_name (i + suc k))) (array_of (i, x)) (others ++ rest)
    (other_array (data_name (i + suc k)) i x (arrays_differ i (i + suc k) (omega (arith, few)) (omega (arith, few, within)) (omega arith))))
    ∙ ap (λ j. slice_get (filter_map (array_bytes (data_name j)) (others ++ rest)) 0) next
    ∙ array_there (i + 1) k ds d rest at some (omega (arith, few))

array_in : (m : Module) (rest : List c.Item) (k : ℕ) (d : SegmentEntry) → slice_get m.segments k ≡ Some d → 0 < length d.bytes
    → length m.segments < 2 ^ 64
    → slice_get (filter_map (array_bytes (data_name k)) (objects_of m (pointers_of m) ++ (data_of m ++ rest))) 0 ≡ Some d.bytes
array_in m rest k d at some few =
    ap (λ items. slice_get (filter_map (array_bytes (data_name k)) items) 0) (joined m (data_of m ++ rest))
    ∙ ap (λ items. slice_get items 0) (skip (array_bytes (data_name k)) (map table_var m.tables) _
    (all_images _ table_var m.tables (λ t. refl)))
    ∙ ap (λ items. slice_get items 0) (skip (array_bytes (data_name k)) (map memory_var m.memories) _
    (all_images _ memory_var m.memories (λ t. refl)))
    ∙ ap (λ items. slice_get items 0) (skip (array_bytes (data_name k)) (map (global_var m) (numbered m.globals)) _
    (all_images _ (global_var m) (numbered m.globals) (λ t. refl)))
    ∙ ap (λ items. slice_get items 0) (skip (array_bytes (data_name k)) (map pointer_var (pointers_of m)) _
    (all_images _ pointer_var (pointers_of m) (λ t. refl)))
    ∙ (let at_k : k ≡ 0 + k = omega arith in ap (λ j. slice_get (filter_map (array_bytes (data_name j)) (data_of m ++ rest)) 0) at_k)
    ∙ array_there 0 k m.segments d rest at some (omega (arith, few))

pub arrays_are_found : (s : LinkedSet) (u : ℕ) (m : NamedModule) → slice_get s.modules u ≡ Some m → length m.tree.segments < 2 ^ 64
    → (k : ℕ) (d : SegmentEntry) → slice_get m.tree.segments k ≡ Some d → 0 < length d.bytes
    → array_named (program_of s) u (data_name k) ≡ Some d.bytes
arrays_are_found s u m is few k d at some =
    ap (λ (unit : Option (List c.Item)). if_found unit (λ items. slice_get (filter_map (array_bytes (data_name k)) items) 0))
    (get_mapped items s.modules u m is) ∙ array_in m.tree _ k d at some few
