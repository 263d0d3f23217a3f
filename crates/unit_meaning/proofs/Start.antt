-- Before the first statement nothing is made on either side.
use Rattle.unit_meaning.proofs.Common.{◌≡◌, ℕ, zero, suc, Bool, true, false, List, [], ◌∷◌, map, length, replicate, if◌then◌else◌}
use Rattle.unit_meaning.proofs.Common.{slice_get, Some, None, Option, filter_map, bytes_eq, sym, refl, ap, subst, arith, AllByRecursion}
use Rattle.unit_meaning.proofs.Common.{cons_option, ⊤, if_found, named, Reply, Program, fresh, MemoriesAgree, ObjectsAgree, StoresAgree}
use Rattle.unit_meaning.proofs.Common.{TablesAgree, Together, IsUntouched, items, program_of}
use Rattle.wasm_meaning.specs.LinkedSet as link
use Rattle.wasm_meaning.specs.Store as store
use Rattle.c_tree.specs.declared.tree.CType.TheVariants as type
use Rattle.c_tree.specs.Tree as tree
use Rattle.c_meaning.specs.State as state
use Rattle.c_meaning.specs.Machine.{no_memory, no_table, file_memory, file_table, objects_of}

-- what stands beside a name is the same thing for all names
abbrev IsIfAny : {A : Type 0} → A → Option (state.Name × A) → Type 0
IsIfAny a None = ⊤
IsIfAny a (Some e) = e.1 ≡ a

all_filtered : {I A : Type 0} (a : A) (f : I → Option (state.Name × A)) → ((i : I) → IsIfAny a (f i)) → (xs : List I)
    → AllByRecursion (λ (e : state.Name × A). e.1 ≡ a) (filter_map f xs)
all_filtered a f h [] = tt
all_filtered {I} {A} a f h (x ∷ xs) = go (f x) (h x) (all_filtered a f h xs)
  where
    go : (o : Option (state.Name × A)) → IsIfAny a o → AllByRecursion (λ (e : state.Name × A). e.1 ≡ a) (filter_map f xs)
        → AllByRecursion (λ (e : state.Name × A). e.1 ≡ a) (cons_option o (filter_map f xs))
    go None first others = others
    go (Some e) first others = (first, others)

named_is : {A : Type 0} (P : Option A → Type 0) (a : A) → P None → P (Some a) → (name : state.Name) (entries : List (state.Name × A))
    → AllByRecursion (λ (e : state.Name × A). e.1 ≡ a) entries → P (named name entries)
named_is P a none some name [] all = none
named_is {A} P a none some name (e ∷ entries) all = go (bytes_eq e.0 name) (named_is P a none some name entries all.1)
  where
    go : (b : Bool) → P (named name entries) → P (if b then Some e.1 else named name entries)
    go true others = subst (λ (x : A). P (Some x)) (sym all.0) some
    go false others = others

memory_item : (item : tree.Item) → IsIfAny no_memory (file_memory item)
memory_item (tree.Var type.Mem name number) = refl
memory_item _ = tt

table_item : (item : tree.Item) → IsIfAny no_table (file_table item)
table_item (tree.Var type.Tab name number) = refl
table_item _ = tt

unit_agrees : (p : Program) (s : link.LinkedSet) (q : ℕ) (unit : List tree.Item) → ObjectsAgree p s q store.no_objects (objects_of unit)
unit_agrees p s q unit = record {
  memory = named_is (MemoriesAgree None) no_memory tt refl _ (filter_map file_memory unit)
      (all_filtered no_memory file_memory memory_item unit);
  table = named_is (TablesAgree p s None) no_table tt refl _ (filter_map file_table unit)
      (all_filtered no_table file_table table_item unit);
  globals = tt;
  are_numbers = tt;
}

units_agree : (p : Program) (s : link.LinkedSet) (q : ℕ) (modules : List link.NamedModule)
    → StoresAgree p s q (replicate (length modules) store.no_objects) (map objects_of (map items modules))
units_agree p s q [] = tt
units_agree p s q (m ∷ modules) = (unit_agrees p s q (items m), units_agree p s (suc q) modules)

nothing_made : (count u : ℕ) (o : store.Objects) → slice_get (replicate count store.no_objects) u ≡ Some o → o ≡ store.no_objects
nothing_made zero u o e = absurd (cc)
nothing_made (suc count) zero o e = let same : store.no_objects ≡ o = cc in sym same
nothing_made (suc count) (suc u) o e = nothing_made count u o e

no_table_made : (made : store.Store) (u : ℕ) (t : store.Table) → ((o : store.Objects) → slice_get made u ≡ Some o → o ≡ store.no_objects)
    → store.table_in made u ≡ Some t → ⊥
no_table_made made u t none found = go (slice_get made u) none found
  where
    go : (x : Option store.Objects) → ((o : store.Objects) → x ≡ Some o → o ≡ store.no_objects)
        → if_found x (λ (o : store.Objects). o.table) ≡ Some t → ⊥
    go None none found = cc
    go (Some o) none found = let is : o.table ≡ None = ap (λ (x : store.Objects). x.table) (none o refl) in cc

pub starts_together : (s : link.LinkedSet) (replies : List Reply)
    → Together (program_of s) s 0 0 (fresh (program_of s) replies) (replicate (length s.modules) store.no_objects)
    (record { replies = replies; events = [] })
starts_together s replies = record {
  agrees = record { objects = units_agree (program_of s) s 0 s.modules; same_trail = refl };
  ready = record {
    pointers = λ u tree less is. absurd (omega (arith, less));
    objects = λ u tree less is. absurd (omega (arith, less));
    elements = λ u table found. absurd (no_table_made (replicate (length s.modules) store.no_objects) u table
        (nothing_made (length s.modules) u) found);
  };
  depth_is = refl;
}

made_at : (modules : List link.NamedModule) (v : ℕ) (m : link.NamedModule) → slice_get modules v ≡ Some m
    → (slice_get (replicate (length modules) store.no_objects) v ≡ Some store.no_objects)
    × (slice_get (map objects_of (map items modules)) v ≡ Some (objects_of (items m)))
made_at [] v m is = absurd (cc)
made_at (n ∷ modules) zero m is = let same : n ≡ m = cc in (refl, ap (λ (k : link.NamedModule). Some (objects_of (items k))) same)
made_at (n ∷ modules) (suc v) m is = made_at modules v m is

pub starts_untouched : (s : link.LinkedSet) (replies : List Reply) (v : ℕ) (m : link.NamedModule) → slice_get s.modules v ≡ Some m
    → IsUntouched v m (fresh (program_of s) replies) (replicate (length s.modules) store.no_objects)
starts_untouched s replies v m is =
    let at = made_at s.modules v m is in
    record { objects = at.0; now = objects_of (items m); unit = at.1; same_types = refl }
