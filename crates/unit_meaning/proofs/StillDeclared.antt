-- A unit that is untouched still declares what its module needs: the names are there, with their types, and nothing
-- is made.
use Rattle.unit_meaning.proofs.Common.{◌≡◌, ℕ, zero, suc, ◌+◌, Bool, true, false, List, [], ◌∷◌, map, is_some, if◌then◌else◌, slice_get}
use Rattle.unit_meaning.proofs.Common.{Some, None, Option, bytes_eq, sym, refl, ap, ◌∙◌, subst, arith, named, Trail, imported_globals}
use Rattle.unit_meaning.proofs.Common.{LinkedSet, NamedModule, Program, global_name, memory_name, table_name, MemoriesAgree, ObjectsAgree}
use Rattle.unit_meaning.proofs.Common.{StoresAgree, TablesAgree, Together, pointer_name, IsUntouched, items}
use Rattle.wasm_meaning.specs.Store as store
use Rattle.c_meaning.specs.State as state
use Rattle.c_meaning.specs.Machine as machine
use Rattle.init_meaning.specs.Zeros.{held}
use Rattle.init_meaning.proofs.Held.{named_zeroed}
use Rattle.init_meaning.specs.Declared.{IsDeclared}

-- whether a name is there depends on the names alone
named_names : {A B : Type 0} (name : state.Name) (xs : List (state.Name × A)) (ys : List (state.Name × B))
    → map (λ (e : state.Name × A). e.0) xs ≡ map (λ (e : state.Name × B). e.0) ys → is_some (named name xs) ≡ is_some (named name ys)
named_names name [] [] e = refl
named_names name [] (y ∷ ys) e = absurd (cc)
named_names name (x ∷ xs) [] e = absurd (cc)
named_names {A} {B} name (x ∷ xs) (y ∷ ys) e =
    let first : x.0 ≡ y.0 = cc in
    let others : map (λ (e : state.Name × A). e.0) xs ≡ map (λ (e : state.Name × B). e.0) ys = cc in
    ap (λ (n : state.Name). is_some (if bytes_eq n name then Some x.1 else named name xs)) first
    ∙ go (bytes_eq y.0 name) (named_names name xs ys others)
  where
    go : (b : Bool) → is_some (named name xs) ≡ is_some (named name ys)
        → is_some (if b then Some x.1 else named name xs) ≡ is_some (if b then Some y.1 else named name ys)
    go true h = refl
    go false h = h

agree_at : (p : Program) (s : LinkedSet) (q : ℕ) (made : store.Store) (units : List state.Objects) (i : ℕ) (o : store.Objects)
    (u : state.Objects) → StoresAgree p s q made units → slice_get made i ≡ Some o → slice_get units i ≡ Some u
    → ObjectsAgree p s (q + i) o u
agree_at p s q [] [] i o u a is is' = absurd (cc)
agree_at p s q (x ∷ made) (y ∷ units) zero o u a is is' =
    let e : q ≡ q + 0 = omega arith in
    let first : x ≡ o = cc in
    let second : y ≡ u = cc in
    rw e at (rw first at (subst (ObjectsAgree p s q x) second a.0))
agree_at p s q (x ∷ made) (y ∷ units) (suc i) o u a is is' =
    let e : suc q + i ≡ q + suc i = omega arith in
    rw e at (agree_at p s (suc q) made units i o u a.1 is is')
agree_at p s q _ _ i o u a is is' = absurd a

no_table_there : (p : Program) (s : LinkedSet) (o : Option state.Table) → is_some o ≡ true → TablesAgree p s None o
    → o ≡ Some machine.no_table
no_table_there p s None some a = absurd (cc)
no_table_there p s (Some t) some a = ap Some a

no_memory_there : (o : Option state.Memory) → is_some o ≡ true → MemoriesAgree None o → o ≡ Some machine.no_memory
no_memory_there None some a = absurd (cc)
no_memory_there (Some m) some a = ap Some a

pub still_declared : (p : Program) (s : LinkedSet) (u : ℕ) (m : NamedModule) (mach : state.Machine) (made : store.Store) (trail : Trail)
    → Together p s u 0 mach made trail → (h : IsUntouched u m mach made)
    → IsDeclared m.tree (machine.objects_of (items m)) → IsDeclared m.tree h.now
still_declared p s u m mach made trail together h d = record {
  table = λ some. no_table_there p s (named table_name h.now.tables) (table table_name ∙ ap is_some (d.table some)) agree.table;
  memory = λ some. no_memory_there (named memory_name h.now.memories) (memory memory_name ∙ ap is_some (d.memory some)) agree.memory;
  globals = λ k e is. var (global_name (imported_globals m.tree + k)) ∙ d.globals k e is;
  table_pointer = λ some. var (pointer_name table_name) ∙ d.table_pointer some;
  memory_pointer = λ some. var (pointer_name memory_name) ∙ d.memory_pointer some;
  global_pointers = λ k less. var (pointer_name (global_name k)) ∙ d.global_pointers k less;
}
  where
    agree : ObjectsAgree p s (0 + u) store.no_objects h.now
    agree = agree_at p s 0 made mach.units u store.no_objects h.now together.agrees.objects h.objects h.unit

    var : (name : state.Name) → held name h.now.vars ≡ held name (machine.objects_of (items m)).vars
    var name = sym (named_zeroed name h.now.vars)
        ∙ (ap (λ (types : state.Vars × List state.Name × List state.Name). named name types.0) h.same_types
        ∙ named_zeroed name (machine.objects_of (items m)).vars)

    memory : (name : state.Name) → is_some (named name h.now.memories) ≡ is_some (named name (machine.objects_of (items m)).memories)
    memory name = named_names name h.now.memories (machine.objects_of (items m)).memories
        (ap (λ (types : state.Vars × List state.Name × List state.Name). types.1) h.same_types)

    table : (name : state.Name) → is_some (named name h.now.tables) ≡ is_some (named name (machine.objects_of (items m)).tables)
    table name = named_names name h.now.tables (machine.objects_of (items m)).tables
        (ap (λ (types : state.Vars × List state.Name × List state.Name). types.2) h.same_types)
