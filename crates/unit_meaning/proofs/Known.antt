-- What the tasks of an instantiation rest on, from what is shown of the units' functions: that the init function
-- is defined, that functions are reached by their names, and that imports' symbols give pointers.
use Rattle.wasm_tree.proofs.ImportCounts.{memory_count, table_count}
use Rattle.c_meaning.specs.State as state
use Rattle.unit_definition.proofs.Instantiable.{modules_are_instantiable}
use Rattle.c_init.specs.Instantiable.{IsInstantiable}
use Rattle.unit_definition.proofs.AcceptedLimits.{accepted_limits}
use Rattle.unit_meaning.proofs.Common.{◌≡◌, ℕ, suc, ◌+◌, ◌^◌, ◌<◌, ◌≤◌, Bool, true, false, cond, not, List, [], ◌∷◌, ◌++◌, map, length}
use Rattle.unit_meaning.proofs.Common.{if◌then◌else◌, slice_get, Some, filter, flat_map, sym, refl, ap, ◌∙◌, subst, arith, slice_get_within}
use Rattle.unit_meaning.proofs.Common.{all_at, func_space, is_func_import, is_global_import, is_memory_import, is_table_import}
use Rattle.unit_meaning.proofs.Common.{memory_of_import, memory_space, table_of_import, table_space, Import, ImportKind, ImportFunc}
use Rattle.unit_meaning.proofs.Common.{ImportGlobal, ImportMemory, ImportTable, LimitsEntry, External, IsGlobal, IsMemory, IsTable}
use Rattle.unit_meaning.proofs.Common.{LinkedSet, NamedModule, import_at, global_imports, memory_imports, table_imports, global_object}
use Rattle.unit_meaning.proofs.Common.{memory_object, table_object, BodiesFollow, Defines, init_func, UnitsAreInstantiatedAlike, IsAccepted}
use Rattle.unit_meaning.proofs.Common.{length-append, IsAcceptedSet, UnitsServe, program_of}
use Rattle.init_meaning.specs.ReachedFuncs.{FuncIsReached}
use Rattle.init_meaning.specs.Taken.{GivesPointer, IsTakenAs, AreTaken, is_taken, next_number}
use Rattle.unit_meaning.proofs.Declared.{units_declare, arrays_are_found}
use Rattle.unit_meaning.proofs.Owners.{imported_table, imported_memory, global_by_import, table_owned, memory_owned, global_owned}
use Rattle.unit_meaning.proofs.Owners.{early_global_owned}
use Rattle.unit_meaning.proofs.Instantiated.{UnitsAreKnown, instantiated_alike}
use Rattle.c_init.proofs.Small.{is_func, is_table, is_memory, is_global}
use Rattle.unit_meaning.proofs.Pointers.{target_of}
use Rattle.init_meaning.specs.InitFollows.{InitsFollow}
use Rattle.init_meaning.specs.Parts.{PartsAreDefined}
use Rattle.c_init.specs.Init.{parts_of}

-- ---- what is shown of functions

abbrev pub InitsAreDefined : Type 0
InitsAreDefined = (s : LinkedSet) → IsAcceptedSet s → (u : ℕ) (m : NamedModule) → slice_get s.modules u ≡ Some m
    → Defines (program_of s) u (init_func m)

abbrev pub PartsAreThere : Type 0
PartsAreThere = (s : LinkedSet) → IsAcceptedSet s → (u : ℕ) (m : NamedModule) → slice_get s.modules u ≡ Some m
    → PartsAreDefined (program_of s) u m.tree 0 (parts_of m.tree)

abbrev pub FuncsAreReached : Type 0
FuncsAreReached = (s : LinkedSet) → IsAcceptedSet s → (u : ℕ) (m : NamedModule) → slice_get s.modules u ≡ Some m
    → (index : ℕ) → index < length (func_space m.tree) → FuncIsReached (program_of s) s u m index

abbrev pub ImportsGivePointers : Type 0
ImportsGivePointers = (s : LinkedSet) → IsAcceptedSet s → (u : ℕ) (m : NamedModule) → slice_get s.modules u ≡ Some m
    → (k : ℕ) (i : Import) → slice_get m.tree.imports k ≡ Some i
    → (x : External) (object : state.ObjectAddress) → import_at s u i ≡ Some x → target_of s x ≡ Some object
    → GivesPointer (program_of s) s u m i object

-- ---- imports one behind another

-- the items that pass, from some place of all that pass
abbrev Stream : (Import → Bool) → List Import → List Import → ℕ → Type 0
Stream p xs all n = (k : ℕ) → slice_get (filter p xs) k ≡ slice_get all (n + k)

stream_at : (p : Import → Bool) (i : Import) (xs all : List Import) (n : ℕ) → Stream p (i ∷ xs) all n → p i ≡ true
    → slice_get all n ≡ Some i
stream_at p i xs all n stream is =
    let at : n + 0 ≡ n = omega arith in
    sym (ap (slice_get all) at) ∙ (sym (stream 0) ∙ ap (λ b. slice_get (cond b (i ∷ filter p xs) (filter p xs)) 0) is)

stream_next : (p : Import → Bool) (i : Import) (xs all : List Import) (n : ℕ) → Stream p (i ∷ xs) all n → p i ≡ true
    → Stream p xs all (suc n)
stream_next p i xs all n stream is k =
    let at : n + suc k ≡ suc n + k = omega arith in
    sym (ap (λ b. slice_get (cond b (i ∷ filter p xs) (filter p xs)) (suc k)) is) ∙ (stream (suc k) ∙ ap (slice_get all) at)

stream_stays : (p : Import → Bool) (i : Import) (xs all : List Import) (n : ℕ) → Stream p (i ∷ xs) all n → p i ≡ false → Stream p xs all n
stream_stays p i xs all n stream is k = sym (ap (λ b. slice_get (cond b (i ∷ filter p xs) (filter p xs)) k) is) ∙ stream k

-- behind an item
stream_after : (p : Import → Bool) (i : Import) (xs all : List Import) (n : ℕ) → Stream p (i ∷ xs) all n
    → Stream p xs all (if p i then suc n else n)
stream_after p i xs all n stream = go (p i) refl
  where
    go : (b : Bool) → p i ≡ b → Stream p xs all (if b then suc n else n)
    go true is = stream_next p i xs all n stream is
    go false is = stream_stays p i xs all n stream is

whole_stream : (p : Import → Bool) (xs : List Import) → Stream p xs (filter p xs) 0
whole_stream p xs k = let at : k ≡ 0 + k = omega arith in ap (slice_get (filter p xs)) at

length_front : {A B : Type 0} (xs : List A) (f : B → A) (ys : List B) → length xs ≤ length (xs ++ map f ys)
length_front xs f ys = omega (arith, length-append xs (map f ys))

module _ (gives : ImportsGivePointers) (s : LinkedSet) (accepted : IsAcceptedSet s) (u : ℕ) (m : NamedModule)
    (module_is : slice_get s.modules u ≡ Some m) (instantiable : IsInstantiable m.tree) where
  abbrev Taken : ℕ → List Import → Type 0
  Taken number imports = AreTaken (program_of s) s u m number imports

  -- one that is taken, before others
  and_more : (number : ℕ) (i : Import) (kind : ImportKind) (rest : List Import) → i.kind ≡ kind → is_func kind ≡ false
      → IsTakenAs (program_of s) s u m number i kind
      → Taken (next_number number i) rest → Taken number (cond (not (is_func_import i)) (i ∷ rest) rest)
  and_more number i kind rest e func one others =
      rw (ap is_func e ∙ func) (subst (IsTakenAs (program_of s) s u m number i) (sym e) one, others)

  taken_from : (place tables memories number : ℕ) (xs : List Import) → ((k : ℕ) → slice_get xs k ≡ slice_get m.tree.imports (place + k))
      → Stream is_table_import xs (table_imports m.tree) tables → Stream is_memory_import xs (memory_imports m.tree) memories
      → Stream is_global_import xs (global_imports m.tree) number → Taken number (filter is_taken xs)
  taken_from place tables memories number [] places t e g = tt
  taken_from place tables memories number (i ∷ xs) places t e g =
      go i.kind refl (taken_from (suc place) (if is_table_import i then suc tables else tables)
      (if is_memory_import i then suc memories else memories) (next_number number i) xs next
      (stream_after is_table_import i xs (table_imports m.tree) tables t)
      (stream_after is_memory_import i xs (memory_imports m.tree) memories e)
      (stream_after is_global_import i xs (global_imports m.tree) number g))
    where
      next : (k : ℕ) → slice_get xs k ≡ slice_get m.tree.imports (suc place + k)
      next k = let at : place + suc k ≡ suc place + k = omega arith in places (suc k) ∙ ap (slice_get m.tree.imports) at

      here : slice_get m.tree.imports place ≡ Some i
      here = let at : place + 0 ≡ place = omega arith in sym (ap (slice_get m.tree.imports) at) ∙ sym (places 0)

      -- of a kind that a module has once at most
      the_one : (p : Import → Bool) (n inside : ℕ) → Stream p (i ∷ xs) (filter p m.tree.imports) n → p i ≡ true
          → length (filter p m.tree.imports) ≤ inside → inside ≤ 1 → slice_get (filter p m.tree.imports) 0 ≡ Some i
      the_one p n inside stream is few one =
          let all : List Import = filter p m.tree.imports in
          let at : slice_get all n ≡ Some i = stream_at p i xs all n stream is in
          let first : n ≡ 0 = omega (arith, slice_get_within all n i at, few, one) in
          subst (λ k. slice_get all k ≡ Some i) first at

      the_table : is_table_import i ≡ true → slice_get (table_imports m.tree) 0 ≡ Some i
      the_table is =
          let few : length (flat_map table_of_import m.tree.imports) ≤ length (table_space m.tree) =
          length_front (flat_map table_of_import m.tree.imports) (λ (t : LimitsEntry). t.limits) m.tree.tables in
          the_one is_table_import tables (length (table_space m.tree)) t is (omega (arith, few, table_count m.tree.imports))
          instantiable.one_table_in_all

      the_memory : is_memory_import i ≡ true → slice_get (memory_imports m.tree) 0 ≡ Some i
      the_memory is =
          let few : length (flat_map memory_of_import m.tree.imports) ≤ length (memory_space m.tree) =
          length_front (flat_map memory_of_import m.tree.imports) (λ (t : LimitsEntry). t.limits) m.tree.memories in
          the_one is_memory_import memories (length (memory_space m.tree)) e is (omega (arith, few, memory_count m.tree.imports))
          instantiable.one_memory_in_all

      go : (kind : ImportKind) → i.kind ≡ kind → Taken (next_number number i) (filter is_taken xs) → Taken number (filter is_taken (i ∷ xs))
      go (ImportFunc ty) is others =
          let no : is_global_import i ≡ false = ap is_global is in
          rw (ap is_func is) (subst (λ b. Taken (if b then suc number else number) (filter is_taken xs)) no others)
      go (ImportTable l) is others =
          let at = the_table (ap is_table is) in
          let r = imported_table s u m module_is accepted.linked i at in
          and_more number i (ImportTable l) (filter is_taken xs) is refl
          (record {
            owner = r.0;
            early = r.1;
            import_is = r.2;
            pointer = gives s accepted u m module_is place i here (IsTable r.0.owner) (table_object r.0.owner) r.2 refl;
            among = slice_get_within (table_imports m.tree) 0 i at;
          })
          others
      go (ImportMemory l) is others =
          let at = the_memory (ap is_memory is) in
          let r = imported_memory s u m module_is accepted.linked i at in
          and_more number i (ImportMemory l) (filter is_taken xs) is refl
          (record {
            owner = r.0;
            early = r.1;
            import_is = r.2;
            pointer = gives s accepted u m module_is place i here (IsMemory r.0.owner) (memory_object r.0.owner) r.2 refl;
            among = slice_get_within (memory_imports m.tree) 0 i at;
          })
          others
      go (ImportGlobal ty mutable) is others =
          let at = stream_at is_global_import i xs (global_imports m.tree) number g (ap is_global is) in
          let r = global_by_import s u m module_is accepted.linked number i ty mutable at is in
          and_more number i (ImportGlobal ty mutable) (filter is_taken xs) is refl
          (record {
            ty = ty;
            owner = r.0;
            early = r.1;
            pointer = gives s accepted u m module_is place i here (IsGlobal r.0.global) (global_object s r.0.global) r.2 refl;
            among = slice_get_within (global_imports m.tree) number i at;
          })
          others

  all_taken : Taken 0 (filter is_taken m.tree.imports)
  all_taken = taken_from 0 0 0 0 m.tree.imports (λ k. let at : k ≡ 0 + k = omega arith in ap (slice_get m.tree.imports) at)
      (whole_stream is_table_import m.tree.imports) (whole_stream is_memory_import m.tree.imports)
      (whole_stream is_global_import m.tree.imports)

-- ---- the theorem

pub units_are_known : InitsAreDefined → PartsAreThere → FuncsAreReached → ImportsGivePointers → UnitsAreKnown
units_are_known inits parts functions gives s accepted u m is =
    let a : IsAccepted m = all_at IsAccepted s.modules u m accepted.accepted is in
    let instantiable : IsInstantiable m.tree = modules_are_instantiable m.tree a.valid (accepted_limits a) in (
      record {
        init = inits s accepted u m is;
        parts = parts s accepted u m is;
        array = arrays_are_found s u m is (let few : length m.tree.segments + 2 < 2 ^ 32 = instantiable.few_segments in omega (arith, few));
        table = table_owned s u m is accepted.linked;
        memory = memory_owned s u m is accepted.linked;
        global = global_owned s u m is accepted.linked;
        early_global = early_global_owned s u m is accepted.linked;
        function = functions s accepted u m is;
        taken = all_taken gives s accepted u m is instantiable;
      },
      units_declare m a,
    )

-- The units of an accepted set are instantiated as its modules are.
pub units_are_instantiated_alike : InitsFollow → BodiesFollow → UnitsServe → InitsAreDefined → PartsAreThere → FuncsAreReached
    → ImportsGivePointers → UnitsAreInstantiatedAlike
units_are_instantiated_alike follow bodies serve inits parts functions gives =
    instantiated_alike follow bodies serve (units_are_known inits parts functions gives)
