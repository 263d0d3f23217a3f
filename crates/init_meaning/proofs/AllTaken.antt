-- All imports are taken: then the pointers of the unit are set.
use Rattle.init_meaning.proofs.Common.{◌≡◌, ℕ, suc, ◌+◌, ◌^◌, ◌<◌, Bool, true, false, ◌||◌, List, [], ◌∷◌, ◌++◌, map, length, if◌then◌else◌}
use Rattle.init_meaning.proofs.Common.{slice_get, Some, codes, filter, refl, ap, ◌∙◌, append_assoc, arith, none-some, slice_get_within}
use Rattle.init_meaning.proofs.Common.{AllByRecursion, Trail, imported_globals, is_func_import, is_global_import, is_memory_import}
use Rattle.init_meaning.proofs.Common.{is_table_import, Import, ImportKind, ImportFunc, ImportGlobal, ImportMemory, ImportTable, LinkedSet}
use Rattle.init_meaning.proofs.Common.{NamedModule, Take, Task, global_name, memory_name, table_name, global_imports, memory_imports}
use Rattle.init_meaning.proofs.Common.{table_imports, has_test, set_pointer, take_stmts, takes_from, test_limits}
use Rattle.std.proofs.Math.Bool.{or-true, or-false}
use Rattle.wasm_meaning.specs.Store as store
use Rattle.c_tree.specs.Tree as c
use Rattle.c_meaning.specs.State as state
use Rattle.init_meaning.proofs.InitStatements.{Seat}
use Rattle.init_meaning.proofs.InitRuns.{FollowsTask, FollowsTasks, and_just, at_stage}
use Rattle.init_meaning.specs.Taken.{IsTakenAs, AreTaken, next_number, is_taken}
use Rattle.init_meaning.proofs.TakeTasks.{IsLow, IsTaking, table_follows, memory_follows, global_follows}
use Rattle.init_meaning.proofs.LimitTests.{CanTest}
use Rattle.init_meaning.proofs.MakeTasks.{IsMaking}
use Rattle.c_init.proofs.Small.{is_func, is_table, is_memory, is_global}

-- ---- one import

abbrev stmts_as : NamedModule → ℕ → Import → ImportKind → List c.Stmt
stmts_as m number i kind = elim kind [
  | ImportFunc t ↦ []
  | ImportTable limits ↦ set_pointer m i table_name ∷ test_limits table_name (codes "w2c_tab_len") (codes "w2c_tab_max") 1 limits
  | ImportMemory limits ↦ set_pointer m i memory_name ∷ test_limits memory_name (codes "w2c_mem_len") (codes "w2c_mem_max") 65536 limits
  | ImportGlobal t mutable ↦ set_pointer m i (global_name number) ∷ []
]

import_follows : (s : LinkedSet) (g : Seat) (m : NamedModule) (table memory : Bool) (number : ℕ) (i : Import) (rest : List c.Stmt)
    → imported_globals m.tree < 2 ^ 64
    → IsTakenAs g.program s g.unit m number i i.kind → (has_test i ≡ true → CanTest g m.tree) → IsLow i.kind
    → FollowsTask s g (IsTaking s g m table memory number) (Take i)
    (IsTaking s g m (table || is_table_import i) (memory || is_memory_import i) (next_number number i)) (take_stmts m number i ++ rest) rest
import_follows s g m table memory number i rest few taken can low = go i.kind refl taken low
  where
    tests : ImportKind → Bool
    tests kind = has_test (record i { kind = kind })

    Follows : ImportKind → Type 0
    Follows kind = FollowsTask s g (IsTaking s g m table memory number) (Take i)
        (IsTaking s g m (table || is_table kind) (memory || is_memory kind) (if is_global kind then suc number else number))
        (stmts_as m number i kind ++ rest) rest

    go : (kind : ImportKind) → i.kind ≡ kind → IsTakenAs g.program s g.unit m number i kind → IsLow kind → Follows kind
    go (ImportFunc t) e h low = absurd h
    go (ImportTable l) e h low = rw (or-true table, or-false memory)
        (table_follows s g m i l table memory number rest e h (λ is. can (ap tests e ∙ is)) low)
    go (ImportMemory l) e h low = rw (or-false table, or-true memory)
        (memory_follows s g m i l table memory number rest e h (λ is. can (ap tests e ∙ is)) low)
    go (ImportGlobal t mutable) e h low = rw (or-false table, or-false memory)
        (global_follows s g m i t mutable table memory number rest e h few)

-- ---- imports in order

abbrev flag_after : (Import → Bool) → Bool → List Import → Bool
flag_after f has [] = has
flag_after f has (i ∷ imports) = flag_after f (has || f i) imports

abbrev number_after : ℕ → List Import → ℕ
number_after number [] = number
number_after number (i ∷ imports) = number_after (next_number number i) imports

takes_follow : (s : LinkedSet) (g : Seat) (m : NamedModule) (spare : ℕ) (table memory : Bool) (number : ℕ) (imports : List Import)
    (rest : List c.Stmt) (tasks : List Task) → imported_globals m.tree < 2 ^ 64 → AreTaken g.program s g.unit m number imports
    → AllByRecursion (λ i. has_test i ≡ true → CanTest g m.tree) imports → AllByRecursion (λ i. IsLow i.kind) imports
    → FollowsTasks s g spare (IsTaking s g m (flag_after is_table_import table imports) (flag_after is_memory_import memory imports)
    (number_after number imports)) rest tasks
    → FollowsTasks s g spare (IsTaking s g m table memory number) (takes_from m number imports ++ rest) (map Take imports ++ tasks)
takes_follow s g m spare table memory number [] rest tasks few taken can low behind = behind
takes_follow s g m spare table memory number (i ∷ imports) rest tasks few taken can low behind =
    rw (append_assoc (take_stmts m number i) (takes_from m (next_number number i) imports) rest) (and_just refl
    (import_follows s g m table memory number i (takes_from m (next_number number i) imports ++ rest) few taken.0 can.0 low.0)
    (takes_follow s g m spare (table || is_table_import i) (memory || is_memory_import i)
    (next_number number i) imports rest tasks few taken.1 can.1 low.1 behind))

-- ---- at their end

flag_true : (f : Import → Bool) (imports : List Import) → flag_after f true imports ≡ true
flag_true f [] = refl
flag_true f (i ∷ imports) = flag_true f imports

flag_found : (f : Import → Bool) → ((i : Import) → f i ≡ true → is_func_import i ≡ false) → (has : Bool) (imports : List Import)
    (x : Import) → slice_get (filter f imports) 0 ≡ Some x → flag_after f has (filter is_taken imports) ≡ true
flag_found f apart has [] x e = absurd (none-some x e)
flag_found f apart has (i ∷ imports) x e = go (flag_found f apart has imports x) (flag_found f apart (has || f i) imports x) (f i) refl
    (is_func_import i) refl
  where
    go : (slice_get (filter f imports) 0 ≡ Some x → flag_after f has (filter is_taken imports) ≡ true)
        → (slice_get (filter f imports) 0 ≡ Some x → flag_after f (has || f i) (filter is_taken imports) ≡ true)
        → (b : Bool) → f i ≡ b → (t : Bool) → is_func_import i ≡ t → flag_after f has (filter is_taken (i ∷ imports)) ≡ true
    go skip further true is true func = absurd (let no : is_func_import i ≡ false = apart i is in cc)
    go skip further true is false func = rw func (rw is
        (ap (λ b. flag_after f b (filter is_taken imports)) (or-true has) ∙ flag_true f (filter is_taken imports)))
    go skip further false is true func = rw func (skip (rw is at e))
    go skip further false is false func = rw func (further (rw is at e))

number_is : (number : ℕ) (imports : List Import) → ((i : Import) → is_global_import i ≡ true → is_func_import i ≡ false)
    → number_after number (filter is_taken imports) ≡ number + length (filter is_global_import imports)
number_is number [] apart = omega arith
number_is number (i ∷ imports) apart = go (number_is number imports apart) (number_is (suc number) imports apart) (is_global_import i) refl
    (is_func_import i) refl
  where
    go : number_after number (filter is_taken imports) ≡ number + length (filter is_global_import imports)
        → number_after (suc number) (filter is_taken imports) ≡ suc number + length (filter is_global_import imports)
        → (b : Bool) → is_global_import i ≡ b → (t : Bool) → is_func_import i ≡ t
        → number_after number (filter is_taken (i ∷ imports)) ≡ number + length (filter is_global_import (i ∷ imports))
    go same more true is true func = absurd (let no : is_func_import i ≡ false = apart i is in cc)
    go same more true is false func = rw (func, is) (more ∙ omega arith)
    go same more false is true func = rw (func, is) same
    go same more false is false func = rw (func, is) same

-- what is of another kind is no function
is_taken_kind : (test : ImportKind → Bool) → ((t : ℕ) → test (ImportFunc t) ≡ false) → (kind : ImportKind) → test kind ≡ true
    → is_func kind ≡ false
is_taken_kind test none (ImportFunc t) e = let no : test (ImportFunc t) ≡ false = none t in absurd cc
is_taken_kind test none _ e = refl

taken_is_making : (s : LinkedSet) (g : Seat) (m : NamedModule) (table memory : Bool) (number : ℕ)
    → ((i : Import) → slice_get (table_imports m.tree) 0 ≡ Some i → table ≡ true)
    → ((i : Import) → slice_get (memory_imports m.tree) 0 ≡ Some i → memory ≡ true) → number ≡ imported_globals m.tree
    → (mach : state.Machine) (made : store.Store) (trail : Trail) (vars : state.Vars)
    → IsTaking s g m table memory number mach made trail vars → IsMaking s g m false false [] mach made trail vars
taken_is_making s g m table memory number tables memories count mach made trail vars here = record {
  o = store.no_objects;
  x = here.x;
  own = record {
    together = here.together;
    locals = here.locals;
    pointers = record {
      memory = λ i e. here.memory_set (memories i e);
      table = λ i e. here.table_set (tables i e);
      globals = λ k i e. here.globals_set k (omega (arith, slice_get_within (global_imports m.tree) k i e, count));
    };
    o_is = here.nothing;
    x_is = here.x_is;
    declared = here.declared.globals;
  };
  table = here.declared.table;
  memory = here.declared.memory;
  types = refl;
}

pub taking_follows : (s : LinkedSet) (g : Seat) (m : NamedModule) (spare : ℕ) (rest : List c.Stmt) (tasks : List Task)
    → imported_globals m.tree < 2 ^ 64 → AreTaken g.program s g.unit m 0 (filter is_taken m.tree.imports)
    → AllByRecursion (λ i. has_test i ≡ true → CanTest g m.tree) (filter is_taken m.tree.imports)
    → AllByRecursion (λ i. IsLow i.kind) (filter is_taken m.tree.imports)
    → FollowsTasks s g spare (IsMaking s g m false false []) rest tasks
    → FollowsTasks s g spare (IsTaking s g m false false 0) (takes_from m 0 (filter is_taken m.tree.imports) ++ rest)
    (map Take (filter is_taken m.tree.imports) ++ tasks)
taking_follows s g m spare rest tasks few taken can low behind =
    let all : List Import = m.tree.imports in
    let imports : List Import = filter is_taken all in
    takes_follow s g m spare false false 0 imports rest tasks few taken can low
    (at_stage (taken_is_making s g m (flag_after is_table_import false imports) (flag_after is_memory_import false imports)
    (number_after 0 imports) (λ i e. flag_found is_table_import (λ i. is_taken_kind is_table (λ t. refl) i.kind) false all i e)
    (λ i e. flag_found is_memory_import (λ i. is_taken_kind is_memory (λ t. refl) i.kind) false all i e)
    (number_is 0 all (λ i. is_taken_kind is_global (λ t. refl) i.kind) ∙ omega arith)) behind)
