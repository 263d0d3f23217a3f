-- The objects of units that keep the rules begin with values of their types.
use Rattle.c_sound.proofs.Common.{◌≡◌, ℕ, Bool, true, false, List, [], ◌∷◌, map, if◌then◌else◌, slice_get, Some, None, Option, option_map}
use Rattle.c_sound.proofs.Common.{filter_map, bytes_eq, sym, refl, ap, ◌∙◌, subst, false≢true, AllByRecursion, cons_option, ⊤, by_test}
use Rattle.c_sound.proofs.Common.{if_found, named, Reply, I32, I64, if_any, is_void, number_suits, is_object_type, variable_of, CType, Num}
use Rattle.c_sound.proofs.Common.{Program, file_memory, file_table, file_var, fresh, initial_of, no_memory, no_table, objects_of, zero_of}
use Rattle.c_sound.proofs.Common.{CValue, FuncPointer, Memory, Name, Number, ObjectAddress, Objects, Pointer, Table, OfType, TypedMachine}
use Rattle.c_sound.proofs.Common.{type_at}
use Rattle.std.proofs.lemmas.Option.{slice_get-map}
use Rattle.c_tree.specs.declared.tree.CType.TheVariants as type
use Rattle.c_tree.specs.Tree as tree
use Rattle.c_sound.proofs.Choices.{by_option}
use Rattle.c_sound.proofs.Calls.{first_value}

-- a variable that is not void, with a first value of its type if it has one
abbrev pub StartsWell : tree.Item → Type 0
StartsWell (tree.Array name count bytes) = ⊤
StartsWell (tree.Var t name number) = (is_void t ≡ false) × (if_any number (number_suits t) ≡ true)
StartsWell (tree.Function f) = ⊤

zero_is : (p : Program) (t : CType) → is_void t ≡ false → is_object_type t ≡ false → (v : CValue) × (zero_of t ≡ Some v) × OfType p t v
zero_is p type.U32 void plain = (Number (I32 0), refl, record { is = refl; points = tt })
zero_is p type.U64 void plain = (Number (I64 0), refl, record { is = refl; points = tt })
zero_is p type.FnPtr void plain = (FuncPointer None, refl, record { is = refl; points = tt })
zero_is p type.Void void plain = absurd (false≢true (sym void))
zero_is p type.Mem void plain = absurd (false≢true (sym plain))
zero_is p type.Tab void plain = absurd (false≢true (sym plain))
zero_is p _ void plain = (Pointer None, refl, record { is = refl; points = tt })

var_is : (p : Program) (t : CType) (name : Name) (number : Option Num) → StartsWell (tree.Var t name number) → is_object_type t ≡ false
    → (v : CValue) × (file_var (tree.Var t name number) ≡ Some (name, v)) × OfType p t v
var_is p t name None well plain =
    let v = zero_is p t well.0 plain in
    (v.0, ap (option_map (λ (v : CValue). (name, v))) v.1, v.2)
var_is p t name (Some n) well plain =
    let v = first_value p t n well.1 in
    (v.0, ap (option_map (λ (v : CValue). (name, v))) v.1, v.2)

-- an entry of another name, or none, is passed over
passed : {A : Type 0} (name x : Name) (o : Option A) (entries : List (Name × A)) (a : A) → bytes_eq x name ≡ false
    → named name entries ≡ Some a → named name (cons_option (option_map (λ (v : A). (x, v)) o) entries) ≡ Some a
passed name x None entries a is e = e
passed name x (Some v) entries a is e = rw is e

var_entry : (t : CType) (x : Name) (number : Option Num)
    → (o : Option CValue) × (file_var (tree.Var t x number) ≡ option_map (λ (v : CValue). (x, v)) o)
var_entry t x None = (zero_of t, refl)
var_entry t x (Some n) = (initial_of t n, refl)

vars_start : (p : Program) (items : List tree.Item) (name : Name) (t : CType) → AllByRecursion StartsWell items
    → named name (filter_map variable_of items) ≡ Some t → is_object_type t ≡ false
    → (v : CValue) × (named name (filter_map file_var items) ≡ Some v) × OfType p t v
vars_start p [] name t all e plain = absurd cc
vars_start p (tree.Array x count bytes ∷ items) name t all e plain = vars_start p items name t all.1 e plain
vars_start p (tree.Function f ∷ items) name t all e plain = vars_start p items name t all.1 e plain
vars_start p (tree.Var u x number ∷ items) name t all e plain = by_test (bytes_eq x name)
    (λ is.
    let same : u ≡ t = (let f = rw is at e in cc) in
    let v = var_is p u x number all.0 (subst (λ (w : CType). is_object_type w ≡ false) (sym same) plain) in (
      v.0,
      ap (λ (o : Option (Name × CValue)). named name (cons_option o (filter_map file_var items))) v.1
          ∙ ap (λ (b : Bool). if b then Some v.0 else named name (filter_map file_var items)) is,
      subst (λ (w : CType). OfType p w v.0) same v.2,
    ))
    (λ is.
    let behind = vars_start p items name t all.1 (rw is at e) plain in
    let entry = var_entry u x number in (
      behind.0,
      ap (λ (o : Option (Name × CValue)). named name (cons_option o (filter_map file_var items))) entry.1
          ∙ passed name x entry.0 (filter_map file_var items) behind.0 is behind.1,
      behind.2,
    ))

memory_entry : (t : CType) (x : Name) (number : Option Num)
    → (o : Option Memory) × (file_memory (tree.Var t x number) ≡ option_map (λ (v : Memory). (x, v)) o)
memory_entry type.Mem x number = (Some no_memory, refl)
memory_entry _ x number = (None, refl)

memories_start : (items : List tree.Item) (name : Name) → named name (filter_map variable_of items) ≡ Some type.Mem
    → named name (filter_map file_memory items) ≡ Some no_memory
memories_start [] name e = absurd cc
memories_start (tree.Array x count bytes ∷ items) name e = memories_start items name e
memories_start (tree.Function f ∷ items) name e = memories_start items name e
memories_start (tree.Var u x number ∷ items) name e = by_test (bytes_eq x name)
    (λ is.
    let same : u ≡ type.Mem = (let f = rw is at e in cc) in
    subst (λ (w : CType). named name (filter_map file_memory (tree.Var w x number ∷ items)) ≡ Some no_memory) (sym same) (rw is refl))
    (λ is.
    let entry = memory_entry u x number in
    ap (λ (o : Option (Name × Memory)). named name (cons_option o (filter_map file_memory items))) entry.1
    ∙ passed name x entry.0 (filter_map file_memory items) no_memory is (memories_start items name (rw is at e)))

table_entry : (t : CType) (x : Name) (number : Option Num)
    → (o : Option Table) × (file_table (tree.Var t x number) ≡ option_map (λ (v : Table). (x, v)) o)
table_entry type.Tab x number = (Some no_table, refl)
table_entry _ x number = (None, refl)

tables_start : (items : List tree.Item) (name : Name) → named name (filter_map variable_of items) ≡ Some type.Tab
    → named name (filter_map file_table items) ≡ Some no_table
tables_start [] name e = absurd cc
tables_start (tree.Array x count bytes ∷ items) name e = tables_start items name e
tables_start (tree.Function f ∷ items) name e = tables_start items name e
tables_start (tree.Var u x number ∷ items) name e = by_test (bytes_eq x name)
    (λ is.
    let same : u ≡ type.Tab = (let f = rw is at e in cc) in
    subst (λ (w : CType). named name (filter_map file_table (tree.Var w x number ∷ items)) ≡ Some no_table) (sym same) (rw is refl))
    (λ is.
    let entry = table_entry u x number in
    ap (λ (o : Option (Name × Table)). named name (cons_option o (filter_map file_table items))) entry.1
    ∙ passed name x entry.0 (filter_map file_table items) no_table is (tables_start items name (rw is at e)))

-- ---- all units

module _ (p : Program) (well : (u : ℕ) (items : List tree.Item) → slice_get p.units u ≡ Some items
    → AllByRecursion StartsWell items) where
  -- what is found in a unit's objects
  found_in : {X : Type 0} (u : ℕ) (items : List tree.Item) (look : Objects → Option X) → slice_get p.units u ≡ Some items
      → if_found (slice_get (map objects_of p.units) u) look ≡ look (objects_of items)
  found_in u items look at =
      ap (λ (o : Option Objects). if_found o look) (slice_get-map objects_of p.units u ∙ ap (option_map objects_of) at)

  declared_in : (a : ObjectAddress) (t : CType) → type_at p a ≡ Some t
      → (items : List tree.Item) × (slice_get p.units a.unit ≡ Some items) × (named a.name (filter_map variable_of items) ≡ Some t)
  declared_in a t e = by_option (slice_get p.units a.unit)
      (λ none. absurd (let f = rw none at e in cc))
      (λ items there. (items, there, rw there at e))

  pub starts : (replies : List Reply) → TypedMachine p (fresh p replies)
  starts replies = record {
    vars = λ a t e plain.
        let at = declared_in a t e in
        let v = vars_start p at.0 a.name t (well a.unit at.0 at.1) at.2 plain in
        (v.0, found_in a.unit at.0 (λ o. named a.name o.vars) at.1 ∙ v.1, v.2);
    memories = λ a e.
        let at = declared_in a type.Mem e in
        (no_memory, found_in a.unit at.0 (λ o. named a.name o.memories) at.1 ∙ memories_start at.0 a.name at.2);
    tables = λ a e.
        let at = declared_in a type.Tab e in
        (no_table, found_in a.unit at.0 (λ o. named a.name o.tables) at.1 ∙ tables_start at.0 a.name at.2, tt);
  }
