-- What an export or an import of a table, a memory or a global stands for: its function gives a pointer to the
-- owner's object.
use Rattle.w2c_base.proofs.Places.{get_before}
use Rattle.unit_meaning.proofs.Common.{◌≡◌, ℕ, zero, suc, ◌+◌, ◌-◌, ◌<◌, ◌≤◌, Bool, List, ◌++◌, map, length, replicate}
use Rattle.unit_meaning.proofs.Common.{slice_get, Some, None, filter, Option, sym, ap, ◌∙◌, inl, inr, arith, length-map}
use Rattle.unit_meaning.proofs.Common.{length-range_with_len, slice_get_past, slice_get_within, range_with_len, at_index, if_found}
use Rattle.unit_meaning.proofs.Common.{imported_globals, is_global_import, is_memory_import, is_table_import, Import, External}
use Rattle.unit_meaning.proofs.Common.{GlobalAddress, Instance, IsFunc, IsGlobal, IsMemory, IsTable, LinkedSet, NamedModule, as_global}
use Rattle.unit_meaning.proofs.Common.{as_memory, as_table, import_at, instances, meaning_of, ObjectAddress, first_global, global_name}
use Rattle.unit_meaning.proofs.Common.{memory_name, table_name, global_imports, memory_imports, table_imports, get_behind, get_numbered}
use Rattle.unit_meaning.proofs.Common.{get_kept, get_unmapped, less_or_not}
use Rattle.unit_meaning.proofs.Instances.{IsPlaced, earlier_is, spaces_at}
use Rattle.c_init.proofs.Small.{some_same, there_in}

-- the object that something stands for
abbrev pub target_of : LinkedSet → External → Option ObjectAddress
target_of s (IsFunc f) = None
target_of s (IsTable owner) = Some (record { unit = owner; name = table_name })
target_of s (IsMemory owner) = Some (record { unit = owner; name = memory_name })
target_of s (IsGlobal g) = Some (record { unit = g.owner; name = global_name (first_global s g.owner + g.number) })

-- ---- index spaces

pub data SpaceCase {A : Type 0} (imports : List Import) (stands : Import → Option A) (own : List (Option A)) (k : ℕ) (x : A) : Type 0 where
  AnImport : (i : Import) → (at : slice_get imports k ≡ Some i) → (is : stands i ≡ Some x) → SpaceCase imports stands own k x
  AnOwn : (none : slice_get imports k ≡ None) → (j : ℕ) → (number : k ≡ length imports + j) → (is : slice_get own j ≡ Some (Some x))
      → SpaceCase imports stands own k x

pub space_case : {A : Type 0} (imports : List Import) (stands : Import → Option A) (own : List (Option A)) (k : ℕ) (x : A)
    → at_index (map stands imports ++ own) k ≡ Some x → SpaceCase imports stands own k x
space_case {A} imports stands own k x at = elim (less_or_not k (length imports)) [
  | inl less ↦ front less
  | inr more ↦ back more
]
  where
    there : slice_get (map stands imports ++ own) k ≡ Some (Some x)
    there = there_in (slice_get (map stands imports ++ own) k) x at

    front : k < length imports → SpaceCase imports stands own k x
    front less =
        let i = get_unmapped stands imports k (Some x)
        (sym (get_before (map stands imports) own k (omega (arith, less, length-map imports stands))) ∙ there) in
        AnImport i.0 i.1 i.2

    back : length imports ≤ k → SpaceCase imports stands own k x
    back more =
        let e : k ≡ length (map stands imports) + (k - length imports) = omega (arith, more, length-map imports stands) in
        AnOwn (slice_get_past imports k more) (k - length imports) (omega (arith, more))
        (sym (get_behind (map stands imports) own (k - length imports)) ∙ ap (slice_get (map stands imports ++ own)) (sym e) ∙ there)

replicated : {A : Type 0} (count : ℕ) (a b : A) (j : ℕ) → slice_get (replicate count (Some a)) j ≡ Some (Some b) → a ≡ b
replicated zero a b j e = absurd (cc)
replicated (suc count) a b zero e = cc
replicated (suc count) a b (suc j) e = replicated count a b j e

-- an external value of its kind
pub as_table_is : (o : Option External) (owner : ℕ) → if_found o as_table ≡ Some owner → o ≡ Some (IsTable owner)
as_table_is (Some (IsTable v)) w e = let same : v ≡ w = cc in ap (λ x. Some (IsTable x)) same
as_table_is _ w e = absurd (cc)

pub as_memory_is : (o : Option External) (owner : ℕ) → if_found o as_memory ≡ Some owner → o ≡ Some (IsMemory owner)
as_memory_is (Some (IsMemory v)) w e = let same : v ≡ w = cc in ap (λ x. Some (IsMemory x)) same
as_memory_is _ w e = absurd (cc)

pub as_global_is : (o : Option External) (g : GlobalAddress) → if_found o as_global ≡ Some g → o ≡ Some (IsGlobal g)
as_global_is (Some (IsGlobal g)) w e = let same : g ≡ w = cc in ap (λ x. Some (IsGlobal x)) same
as_global_is _ w e = absurd (cc)

-- ---- an object by its index: an import's, or the module's own

-- an import of the module that stands for it
pub record ByImport (s : LinkedSet) (v : ℕ) (m : NamedModule) (i : Import) (o : External) : Type 0 where
  pub place : ℕ
  pub is : slice_get m.tree.imports place ≡ Some i
  pub stands : import_at s v i ≡ Some o

by_import : (s : LinkedSet) (v : ℕ) (m : NamedModule) (h : IsPlaced s.hosts (instances s) v m) (p : Import → Bool) (k : ℕ) (i : Import)
    (o : External) → slice_get (filter p m.tree.imports) k ≡ Some i → meaning_of s.hosts h.earlier i ≡ Some o → ByImport s v m i o
by_import s v m h p k i o at stands =
    let f = get_kept p m.tree.imports k i at in
    record { place = f.0; is = f.1; stands = ap (λ (l : List Instance). meaning_of s.hosts l i) (earlier_is s v m h) ∙ stands }

some_there : {A : Type 0} (count j : ℕ) (x y : A) → slice_get (replicate count x) j ≡ Some y → 0 < count
some_there zero j x y e = absurd (cc)
some_there (suc count) j x y e = omega arith

-- of a kind that a module has once at most
pub data ObjectCase (s : LinkedSet) (v : ℕ) (m : NamedModule) (imports : List Import) (count k owner : ℕ) (o : External) : Type 0 where
  ImportedObject : (i : Import) → (at : slice_get imports k ≡ Some i) → ByImport s v m i o → ObjectCase s v m imports count k owner o
  OwnObject : (none : slice_get imports k ≡ None) → (is : owner ≡ v) → (there : 0 < count) → ObjectCase s v m imports count k owner o

object_case : (s : LinkedSet) (v : ℕ) (m : NamedModule) (h : IsPlaced s.hosts (instances s) v m) (wanted : Import → Bool)
    (as_wanted : External → Option ℕ) (wrap : ℕ → External) (count : ℕ)
    → ((o : Option External) (owner : ℕ) → if_found o as_wanted ≡ Some owner → o ≡ Some (wrap owner)) → (k owner : ℕ)
    → at_index (map (λ i. if_found (meaning_of s.hosts h.earlier i) as_wanted) (filter wanted m.tree.imports)
    ++ replicate count (Some (length h.earlier))) k ≡ Some owner
    → ObjectCase s v m (filter wanted m.tree.imports) count k owner (wrap owner)
object_case s v m h wanted as_wanted wrap count as_is k owner at = go (space_case (filter wanted m.tree.imports)
    (λ i. if_found (meaning_of s.hosts h.earlier i) as_wanted) (replicate count (Some (length h.earlier))) k owner at)
  where
    go : SpaceCase (filter wanted m.tree.imports) (λ i. if_found (meaning_of s.hosts h.earlier i) as_wanted)
        (replicate count (Some (length h.earlier))) k owner → ObjectCase s v m (filter wanted m.tree.imports) count k owner (wrap owner)
    go (AnImport i at is) = ImportedObject i at (by_import s v m h wanted k i (wrap owner) at
        (as_is (meaning_of s.hosts h.earlier i) owner is))
    go (AnOwn none j number is) = OwnObject none (sym (replicated count (length h.earlier) owner j is) ∙ h.number)
        (some_there count j (Some (length h.earlier)) (Some owner) is)

pub table_case : (s : LinkedSet) (v : ℕ) (m : NamedModule) (h : IsPlaced s.hosts (instances s) v m) (k : ℕ) (owner : ℕ)
    → at_index (spaces_at s v m h).tables k ≡ Some owner
    → ObjectCase s v m (table_imports m.tree) (length m.tree.tables) k owner (IsTable owner)
table_case s v m h k owner at = object_case s v m h is_table_import as_table IsTable (length m.tree.tables) as_table_is k owner at

pub memory_case : (s : LinkedSet) (v : ℕ) (m : NamedModule) (h : IsPlaced s.hosts (instances s) v m) (k : ℕ) (owner : ℕ)
    → at_index (spaces_at s v m h).memories k ≡ Some owner
    → ObjectCase s v m (memory_imports m.tree) (length m.tree.memories) k owner (IsMemory owner)
memory_case s v m h k owner at = object_case s v m h is_memory_import as_memory IsMemory (length m.tree.memories) as_memory_is k owner at

pub data GlobalCase (s : LinkedSet) (v : ℕ) (m : NamedModule) (k : ℕ) (g : GlobalAddress) : Type 0 where
  ImportedGlobal : (i : Import) → (at : slice_get (global_imports m.tree) k ≡ Some i) → ByImport s v m i (IsGlobal g) → GlobalCase s v m k g
  OwnGlobal : (none : slice_get (global_imports m.tree) k ≡ None) → (owner_is : g.owner ≡ v)
      → (number_is : k ≡ imported_globals m.tree + g.number) → (there : g.number < length m.tree.globals) → GlobalCase s v m k g

pub global_case : (s : LinkedSet) (v : ℕ) (m : NamedModule) (h : IsPlaced s.hosts (instances s) v m) (k : ℕ) (g : GlobalAddress)
    → at_index (spaces_at s v m h).globals k ≡ Some g → GlobalCase s v m k g
global_case s v m h k g at = go (space_case (global_imports m.tree) (λ i. if_found (meaning_of s.hosts h.earlier i) as_global)
    (map own_one (range_with_len 0 (length m.tree.globals))) k g at)
  where
    own_one : ℕ → Option GlobalAddress
    own_one k = Some (record { owner = length h.earlier; number = k })

    go : SpaceCase (global_imports m.tree) (λ i. if_found (meaning_of s.hosts h.earlier i) as_global)
        (map (λ k. Some (record { owner = length h.earlier; number = k })) (range_with_len 0 (length m.tree.globals))) k g
        → GlobalCase s v m k g
    go (AnImport i at is) = ImportedGlobal i at (by_import s v m h is_global_import k i (IsGlobal g) at
        (as_global_is (meaning_of s.hosts h.earlier i) g is))
    go (AnOwn none j number is) =
        let q = get_unmapped (λ k. Some (record { owner = length h.earlier; number = k })) (range_with_len 0 (length m.tree.globals)) j
        (Some g) is in
        let less : j < length m.tree.globals = omega
        (arith, slice_get_within (range_with_len 0 (length m.tree.globals)) j q.0 q.1, length-range_with_len 0 (length m.tree.globals)) in
        let at_j : q.0 ≡ 0 + j = some_same (sym q.1 ∙ get_numbered 0 (length m.tree.globals) j less) in
        let same : record { owner = length h.earlier; number = q.0 } ≡ g = some_same (some_same (ap Some q.2)) in
        let number_same : q.0 ≡ g.number = ap (λ (x : GlobalAddress). x.number) same in
        OwnGlobal none (sym (ap (λ (x : GlobalAddress). x.owner) same) ∙ h.number) (omega (arith, number, at_j, number_same))
        (omega (arith, less, at_j, number_same))
