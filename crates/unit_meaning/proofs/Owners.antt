-- Whose the tables, memories and globals of a module are (WebAssembly Core 1.0, 2.5.1 and 4.5.4): its own, or
-- those of earlier modules.
use Rattle.unit_meaning.proofs.Common.{at_index, imported_globals, IndexSpaces, global_at, instances, memory_at, spaces_of, table_at}
use Rattle.unit_meaning.proofs.Common.{first_global, get_front, ◌≡◌, ℕ, zero, suc, ◌+◌, ◌<◌, Bool, true, false, cond, List, [], ◌∷◌, ◌++◌}
use Rattle.unit_meaning.proofs.Common.{map, length, replicate, IsSome, slice_get, Some, None, filter, Option, option_map, flat_map, sym}
use Rattle.unit_meaning.proofs.Common.{refl, ap, ◌∙◌, subst, arith, none-some, same_Some, slice_get_within, AllByRecursion, range_with_len}
use Rattle.unit_meaning.proofs.Common.{all_at, if_found, ValType, global_of_import, global_space, imported_global_space, is_global_import}
use Rattle.unit_meaning.proofs.Common.{is_memory_import, is_table_import, memory_space, table_space, GlobalEntry, Import, ImportKind}
use Rattle.unit_meaning.proofs.Common.{ImportFunc, ImportGlobal, ImportMemory, ImportTable, Module, External, GlobalAddress, IsGlobal}
use Rattle.unit_meaning.proofs.Common.{IsLinked, IsMemory, IsTable, LinkedSet, NamedModule, Resolves, as_global, as_memory, as_table}
use Rattle.unit_meaning.proofs.Common.{global_type, import_at, module_at, global_imports, memory_imports, table_imports, get_mapped}
use Rattle.unit_meaning.proofs.Common.{ResolvesAs}
use Rattle.body_meaning.proofs.Spaces.{table_owner, memory_owner, global_owner, IfAny, IsEarlier, HasObject, looked_up, import_fits}
use Rattle.body_meaning.proofs.Spaces.{first_fit}
use Rattle.body_meaning.proofs.Seen.{own_table, own_memory, global_known}
use Rattle.init_meaning.specs.Owners.{ObjectOwner, TableOwner, MemoryOwner, GlobalOwner}
use Rattle.alike.proofs.LookUps.{module_is as tree_at}
use Rattle.w2c_base.proofs.OfEach.{all_filtered}
use Rattle.c_init.proofs.Small.{all_pass, is_table, is_memory, is_global}

-- ---- imports by their kind

resolved_table : (s : LinkedSet) (p : ℕ) (i : Import) → Resolves s p i → is_table_import i ≡ true
    → (owner : ℕ) × (import_at s p i ≡ Some (IsTable owner))
resolved_table s p i h is = go i.kind h is
  where
    go : (kind : ImportKind) → ResolvesAs s p i kind → is_table kind ≡ true → (owner : ℕ) × (import_at s p i ≡ Some (IsTable owner))
    go (ImportTable l) h e = h
    go _ h e = absurd cc

resolved_memory : (s : LinkedSet) (p : ℕ) (i : Import) → Resolves s p i → is_memory_import i ≡ true
    → (owner : ℕ) × (import_at s p i ≡ Some (IsMemory owner))
resolved_memory s p i h is = go i.kind h is
  where
    go : (kind : ImportKind) → ResolvesAs s p i kind → is_memory kind ≡ true → (owner : ℕ) × (import_at s p i ≡ Some (IsMemory owner))
    go (ImportMemory l) h e = h
    go _ h e = absurd cc

pub resolved_global : (s : LinkedSet) (p : ℕ) (i : Import) (t : ValType) (mutable : Bool) → Resolves s p i → i.kind ≡ ImportGlobal t mutable
    → (g : GlobalAddress) × (import_at s p i ≡ Some (IsGlobal g)) × (global_type s g ≡ Some (t, mutable))
resolved_global s p i t mutable h is = subst (ResolvesAs s p i) is h

abbrev globals_of : ImportKind → List (ValType × Bool)
globals_of kind = elim kind [ ImportFunc t ↦ [] | ImportTable l ↦ [] | ImportMemory l ↦ [] | ImportGlobal t mutable ↦ (t, mutable) ∷ [] ]

-- the import of an imported global
global_import_at : (imports : List Import) (k : ℕ) (g : ValType × Bool) → slice_get (flat_map global_of_import imports) k ≡ Some g
    → (i : Import) × (slice_get (filter is_global_import imports) k ≡ Some i) × (i.kind ≡ ImportGlobal g.0 g.1)
global_import_at [] k g e = absurd (none-some g e)
global_import_at (x ∷ imports) k g e = go x.kind refl k e (λ k e. global_import_at imports k g e)
  where
    go : (kind : ImportKind) → x.kind ≡ kind → (k : ℕ) → slice_get (globals_of kind ++ flat_map global_of_import imports) k ≡ Some g
        → ((k : ℕ) → slice_get (flat_map global_of_import imports) k ≡ Some g
        → (i : Import) × (slice_get (filter is_global_import imports) k ≡ Some i) × (i.kind ≡ ImportGlobal g.0 g.1))
        → (i : Import) × (slice_get (cond (is_global kind) (x ∷ filter is_global_import imports) (filter is_global_import imports)) k
        ≡ Some i) × (i.kind ≡ ImportGlobal g.0 g.1)
    go (ImportFunc t) is k e behind = behind k e
    go (ImportGlobal t mutable) is zero e behind = let same : (t, mutable) ≡ g = same_Some {A = ValType × Bool} (t, mutable) g e in
        (x, refl, is ∙ ap (λ (g : ValType × Bool). ImportGlobal g.0 g.1) same)
    go (ImportGlobal t mutable) is (suc k) e behind = behind k e
    go _ is k e behind = behind k e

-- ---- owners

module _ (s : LinkedSet) (u : ℕ) (m : NamedModule) (module_is : slice_get s.modules u ≡ Some m) (linked : IsLinked s) where
  resolves : AllByRecursion (Resolves s u) m.tree.imports
  resolves = linked.imports_resolve u m.tree (tree_at s u m module_is)

  earlier : (i : Import) (x : External) → import_at s u i ≡ Some x → IsEarlier s u x
  earlier i x is =
      let within : u < length s.modules = slice_get_within s.modules u m module_is in
      go (import_at s u i) is (import_fits s u (first_fit s u (omega (arith, within))) i)
    where
      go : (found : Option External) → found ≡ Some x → IfAny (IsEarlier s u) found → IsEarlier s u x
      go None e h = absurd (none-some x e)
      go (Some y) e h = subst (IsEarlier s u) (same_Some y x e) h

  of_kind : (wanted : Import → Bool) (k : ℕ) (i : Import) → slice_get (filter wanted m.tree.imports) k ≡ Some i
      → Resolves s u i × (wanted i ≡ true)
  of_kind wanted k i at = (
    all_at (Resolves s u) (filter wanted m.tree.imports) k i (all_filtered (Resolves s u) wanted m.tree.imports resolves) at,
    all_at (λ i. wanted i ≡ true) (filter wanted m.tree.imports) k i (all_pass wanted m.tree.imports) at,
  )

  -- the index of an import stands for what the import stands for
  stands : {A : Type 0} (space : IndexSpaces → List (Option A)) (wanted : Import → Bool) (as_wanted : External → Option A)
      (own : List (Option A)) (k : ℕ) (i : Import) (x : External) → space (spaces_of (import_at s u) u m.tree)
      ≡ map (λ i. if_found (import_at s u i) as_wanted) (filter wanted m.tree.imports) ++ own
      → slice_get (filter wanted m.tree.imports) k ≡ Some i → import_at s u i ≡ Some x
      → if_found (slice_get (instances s) u) (λ i. at_index (space i.spaces) k) ≡ as_wanted x
  stands {A} space wanted as_wanted own k i x space_is at is =
      looked_up space s u m k module_is ∙ ap (λ (entries : List (Option A)). at_index entries k) space_is
      ∙ ap (λ (found : Option (Option A)). if_found found (λ entry. entry))
      (get_front (map (λ i. if_found (import_at s u i) as_wanted) (filter wanted m.tree.imports)) own k
      (if_found (import_at s u i) as_wanted) (get_mapped (λ i. if_found (import_at s u i) as_wanted) (filter wanted m.tree.imports) k i at))
      ∙ ap (λ (found : Option External). if_found found as_wanted) is

  object_of : (found : Option ℕ) (imports : List Import) (count : Module → ℕ) (owner : ℕ) → found ≡ Some owner
      → HasObject s (suc u) owner count → (slice_get imports 0 ≡ None → owner ≡ u) → ObjectOwner s u found imports count
  object_of found imports count owner is h own = record {
    owner = owner;
    owner_is = is;
    early = omega (arith, h.early);
    owner_tree = h.tree;
    owner_tree_is = h.tree_is;
    some = h.some;
    own = own;
  }

  table_of : (owner : ℕ) → table_at s u 0 ≡ Some owner → (slice_get (table_imports m.tree) 0 ≡ None → owner ≡ u) → TableOwner s u m.tree
  table_of owner is own =
      object_of (table_at s u 0) (table_imports m.tree) (λ tree. length tree.tables) owner is (table_owner s u m 0 owner module_is is) own

  memory_of : (owner : ℕ) → memory_at s u 0 ≡ Some owner → (slice_get (memory_imports m.tree) 0 ≡ None → owner ≡ u) → MemoryOwner s u m.tree
  memory_of owner is own =
      object_of (memory_at s u 0) (memory_imports m.tree) (λ tree. length tree.memories) owner is
      (memory_owner s u m 0 owner module_is is) own

  pub imported_table : (i : Import) → slice_get (table_imports m.tree) 0 ≡ Some i
      → (o : TableOwner s u m.tree) × (o.owner < u) × (import_at s u i ≡ Some (IsTable o.owner))
  unfolding table_of resolved_table object_of
  imported_table i at =
      let has = of_kind is_table_import 0 i at in
      let r = resolved_table s u i has.0 has.1 in
      let h : HasObject s u r.0 (λ tree. length tree.tables) = earlier i (IsTable r.0) r.1 in (
        table_of r.0
            (stands (λ spaces. spaces.tables) is_table_import as_table (replicate (length m.tree.tables) (Some u)) 0 i (IsTable r.0)
            refl at r.1) (λ none. absurd (none-some i (sym none ∙ at))),
        h.early,
        r.1,
      )

  pub imported_memory : (i : Import) → slice_get (memory_imports m.tree) 0 ≡ Some i
      → (o : MemoryOwner s u m.tree) × (o.owner < u) × (import_at s u i ≡ Some (IsMemory o.owner))
  unfolding memory_of resolved_memory object_of
  imported_memory i at =
      let has = of_kind is_memory_import 0 i at in
      let r = resolved_memory s u i has.0 has.1 in
      let h : HasObject s u r.0 (λ tree. length tree.memories) = earlier i (IsMemory r.0) r.1 in (
        memory_of r.0
            (stands (λ spaces. spaces.memories) is_memory_import as_memory (replicate (length m.tree.memories) (Some u)) 0 i (IsMemory r.0)
            refl at r.1) (λ none. absurd (none-some i (sym none ∙ at))),
        h.early,
        r.1,
      )

  pub table_owned : IsSome (slice_get (table_space m.tree) 0) → TableOwner s u m.tree
  table_owned some = go (slice_get (table_imports m.tree) 0) refl
    where
      go : (found : Option Import) → slice_get (table_imports m.tree) 0 ≡ found → TableOwner s u m.tree
      go None is = table_of u (own_table s u m module_is is some) (λ none. refl)
      go (Some i) is = (imported_table i is).0

  pub memory_owned : IsSome (slice_get (memory_space m.tree) 0) → MemoryOwner s u m.tree
  memory_owned some = go (slice_get (memory_imports m.tree) 0) refl
    where
      go : (found : Option Import) → slice_get (memory_imports m.tree) 0 ≡ found → MemoryOwner s u m.tree
      go None is = memory_of u (own_memory s u m module_is is some) (λ none. refl)
      go (Some i) is = (imported_memory i is).0

  -- ---- globals

  -- the entry of a global that has a type
  entry_at : (g : GlobalAddress) (t : ValType) (mutable : Bool) → global_type s g ≡ Some (t, mutable)
      → (tree : Module) × (entry : GlobalEntry) × (module_at s g.owner ≡ Some tree) × (slice_get tree.globals g.number ≡ Some entry)
      × (entry.ty ≡ t)
  entry_at g t mutable e = go (module_at s g.owner) refl e
    where
      inner : (tree : Module) (found : Option GlobalEntry) → slice_get tree.globals g.number ≡ found
          → option_map {U = ValType × Bool} (λ (e : GlobalEntry). (e.ty, e.mutable)) found ≡ Some (t, mutable)
          → (entry : GlobalEntry) × (slice_get tree.globals g.number ≡ Some entry) × (entry.ty ≡ t)
      inner tree None is e = absurd cc
      inner tree (Some entry) is e =
          (entry, is, ap (λ (x : ValType × Bool). x.0) (same_Some {A = ValType × Bool} (entry.ty, entry.mutable) (t, mutable) e))

      go : (found : Option Module) → module_at s g.owner ≡ found
          → if_found found (λ m. option_map {U = ValType × Bool} (λ (e : GlobalEntry). (e.ty, e.mutable)) (slice_get m.globals g.number))
          ≡ Some (t, mutable)
          → (tree : Module) × (entry : GlobalEntry) × (module_at s g.owner ≡ Some tree) × (slice_get tree.globals g.number ≡ Some entry)
          × (entry.ty ≡ t)
      go None is e = absurd cc
      go (Some tree) is e = let r = inner tree (slice_get tree.globals g.number) refl e in (tree, r.0, is, r.1, r.2)

  global_of : (k : ℕ) (t : ValType) (mutable : Bool) (g : GlobalAddress) → global_at s u k ≡ Some g → global_type s g ≡ Some (t, mutable)
      → (slice_get (global_imports m.tree) k ≡ None → (g.owner ≡ u) × (k ≡ imported_globals m.tree + g.number)) → GlobalOwner s u m.tree k t
  global_of k t mutable g is typed own =
      let e = entry_at g t mutable typed in
      record {
        global = g;
        global_is = is;
        early = omega (arith, global_owner s u m k g module_is is);
        owner_tree = e.0;
        owner_tree_is = e.2;
        entry = e.1;
        entry_is = e.3;
        typed = e.4;
        own = own;
      }

  pub global_by_import : (k : ℕ) (i : Import) (t : ValType) (mutable : Bool) → slice_get (global_imports m.tree) k ≡ Some i
      → i.kind ≡ ImportGlobal t mutable
      → (o : GlobalOwner s u m.tree k t) × (o.global.owner < u) × (import_at s u i ≡ Some (IsGlobal o.global))
  unfolding global_of resolved_global
  global_by_import k i t mutable at kind =
      let r = resolved_global s u i t mutable (of_kind is_global_import k i at).0 kind in
      let early : r.0.owner < u = earlier i (IsGlobal r.0) r.1 in (
        global_of k t mutable r.0 (stands (λ spaces. spaces.globals) is_global_import as_global
            (map (λ k. Some (record { owner = u; number = k })) (range_with_len 0 (length m.tree.globals))) k i (IsGlobal r.0) refl at r.1)
            r.2 (λ none. absurd (none-some i (sym none ∙ at))),
        early,
        r.1,
      )

  pub early_global_owned : (k : ℕ) (t : ValType) → slice_get (imported_global_space m.tree) k ≡ Some (t, false)
      → (o : GlobalOwner s u m.tree k t) × (o.global.owner < u)
  early_global_owned k t at =
      let i = global_import_at m.tree.imports k (t, false) at in
      let r = global_by_import k i.0 t false i.1 i.2 in
      (r.0, r.1)

  pub global_owned : (k : ℕ) (t : ValType) → slice_get (global_space m.tree) k ≡ Some (t, false) → GlobalOwner s u m.tree k t
  global_owned k t at =
      let g = global_known s u m k (t, false) module_is linked at in
      let first : first_global s u ≡ imported_globals m.tree =
      ap (λ (found : Option Module). elim found [ None ↦ 0 | Some m ↦ imported_globals m ]) (tree_at s u m module_is) in
      global_of k t false g.address g.address_is g.type_is (λ none. let own = g.own none in (own.0, omega (arith, own.1, first)))
