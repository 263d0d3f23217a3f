-- An init function follows its module's instantiation (WebAssembly Core 1.0, 4.5.4): its beginning, and all
-- tasks one behind another.
use Rattle.wasm_meaning.specs.Execution as exec
use Rattle.wasm_meaning.specs.Store as store
use Rattle.c_tree.specs.Makers as makers
use Rattle.c_tree.specs.Tree as c
use Rattle.c_meaning.specs.State as state
use Rattle.c_init.specs.Init.{Part, all_parts, call_part, calling_stmts, is_large, stmts_with, whole_stmts}
use Rattle.c_init.specs.Instantiable.{IsInstantiable}
use Rattle.init_meaning.proofs.InitLabels.{bounds_found, calling_limits_found, data_placed, limits_found, traps}
use Rattle.init_meaning.proofs.Common.{Trail, ◌≡◌, ℕ, zero, suc, Bool, true, false, cond, ◌||◌, List, [], ◌∷◌, ◌++◌, map, length}
use Rattle.init_meaning.proofs.Common.{if◌then◌else◌, slice_get, Some, filter, flat_map, sym, refl, ap, ◌∙◌, subst, arith, or_right}
use Rattle.init_meaning.proofs.Common.{AllByRecursion, list_any, range_with_len, ImportLimits, init_symbol_of, memory_of_import}
use Rattle.init_meaning.proofs.Common.{memory_space, table_of_import, table_space, Import, ImportKind, ImportFunc, ImportGlobal}
use Rattle.init_meaning.proofs.Common.{ImportMemory, ImportTable, Limits, LimitsEntry, IsMaximum, LinkedSet, NamedModule, Begin, Take, Task}
use Rattle.init_meaning.proofs.Common.{tasks_of, stays, Program, Pending, Progress, all_behind, all_front, CallsFollow, has_test}
use Rattle.init_meaning.proofs.Common.{init_stmts, limits_label, make_memory, make_table, start_stmts, takes_from, tests_limits, trap_if}
use Rattle.init_meaning.proofs.Common.{InitFollows, do_tasks}
use Rattle.init_meaning.specs.InitFollows.{InitsFollow, IsKnown}
use Rattle.init_meaning.specs.Parts.{PartsAreDefined}
use Rattle.init_meaning.specs.Taken.{is_taken}
use Rattle.init_meaning.proofs.InitStatements.{Seat, at, null_goes}
use Rattle.init_meaning.proofs.InitRuns.{Stage, FollowsTasks, Instantiates, before}
use Rattle.init_meaning.proofs.FirstVars.{begins, init_locals, init_vars}
use Rattle.init_meaning.proofs.Surroundings.{Surroundings}
use Rattle.init_meaning.proofs.LimitTests.{CanTest}
use Rattle.init_meaning.proofs.TakeTasks.{IsLow, IsTaking}
use Rattle.init_meaning.proofs.AllTaken.{taking_follows}
use Rattle.init_meaning.proofs.MakeTasks.{IsMaking, making_follows, objects_follow, stmts_making, tasks_making}
use Rattle.init_meaning.proofs.StartTasks.{filled_follows, stmts_behind, tasks_behind}
use Rattle.init_meaning.proofs.PartRows.{calls, calls_are}
use Rattle.init_meaning.proofs.CallingStmts.{parts_follow}

-- ---- the call

abbrev seat : Program → ℕ → ℕ → List c.Stmt → Pending → List state.Frame → Seat
seat p u item stmts pending below =
    record { program = p; unit = u; item = item; stmts = stmts; pending = pending; below = below; last = below }

-- the beginning pays for the return and the start call
begin_follows : (s : LinkedSet) (g : Seat) (stage : Stage) (rest : List c.Stmt) (tasks : List Task) → FollowsTasks s g 62 stage rest tasks
    → FollowsTasks s g 0 stage (c.Null ∷ rest) (Begin ∷ tasks)
begin_follows s g stage rest tasks behind = record { follow = follow }
  where
    follow : (n : ℕ) (made : store.Store) (trail : Trail) (mach : state.Machine) (vars : state.Vars) → stage mach made trail vars
        → Instantiates s g 0 (at g mach (c.Null ∷ rest) vars) n (do_tasks s g.unit (Begin ∷ tasks) n made trail)
    follow zero made trail mach vars here =
        record { to = at g mach (c.Null ∷ rest) vars; goes = tt; statements = 0; way = stays g.program _; least = omega arith }
    follow (suc k) made trail mach vars here =
        before s g 0 62 1 (suc k) k _ _ (do_tasks s g.unit tasks k made trail) (null_goes g mach rest vars) (omega arith, omega arith)
        (behind.follow k made trail mach vars here)

-- ---- all tasks

may_test : {A : Type 0} (f : Import → Bool) (imports : List Import) → (list_any has_test imports ≡ true → A)
    → AllByRecursion (λ i. has_test i ≡ true → A) (filter f imports)
may_test f [] can = tt
may_test {A} f (i ∷ imports) can = go (may_test f imports (λ is. can (or_right (has_test i) (list_any has_test imports) is))) (f i)
  where
    go : AllByRecursion (λ i. has_test i ≡ true → A) (filter f imports) → (b : Bool)
        → AllByRecursion (λ i. has_test i ≡ true → A) (cond b (i ∷ filter f imports) (filter f imports))
    go others true = (λ is. can (ap (λ b. b || list_any has_test imports) is), others)
    go others false = others

abbrev Low : Limits → Type 0
Low l = IsMaximum l.max

lows : (f : Import → Bool) (imports : List Import) → AllByRecursion Low (flat_map table_of_import imports)
    → AllByRecursion Low (flat_map memory_of_import imports) → AllByRecursion (λ i. IsLow i.kind) (filter f imports)
lows f [] tables memories = tt
lows f (i ∷ imports) tables memories =
    go (lows f imports (all_behind Low (table_of_import i) (flat_map table_of_import imports) tables)
    (all_behind Low (memory_of_import i) (flat_map memory_of_import imports) memories))
    (one i.kind (all_front Low (table_of_import i) (flat_map table_of_import imports) tables)
    (all_front Low (memory_of_import i) (flat_map memory_of_import imports) memories)) (f i)
  where
    one : (kind : ImportKind)
        → AllByRecursion Low (elim kind [ ImportFunc t ↦ [] | ImportTable l ↦ l ∷ [] | ImportMemory l ↦ [] | ImportGlobal t mutable ↦ [] ])
        → AllByRecursion Low (elim kind [ ImportFunc t ↦ [] | ImportTable l ↦ [] | ImportMemory l ↦ l ∷ [] | ImportGlobal t mutable ↦ [] ])
        → IsLow kind
    one (ImportTable l) a b = a.0
    one (ImportMemory l) a b = b.0
    one _ a b = tt

    go : AllByRecursion (λ i. IsLow i.kind) (filter f imports) → IsLow i.kind → (b : Bool)
        → AllByRecursion (λ i. IsLow i.kind) (cond b (i ∷ filter f imports) (filter f imports))
    go others low true = (low, others)
    go others low false = others

module _ (p : Program) (s : LinkedSet) (u : ℕ) (m : NamedModule) (pending : Pending) (below : List state.Frame)
    (module_is : slice_get s.modules u ≡ Some m) (k : IsKnown p s u m) (instantiable : IsInstantiable m.tree)
    (calls_follow : CallsFollow p s (suc u) 1024 (exec.call_within s 1024)) where
  -- where the init function has these statements
  abbrev sits : List c.Stmt → Seat
  sits stmts = seat p u k.init.item stmts pending below

  around : (stmts : List c.Stmt) → Surroundings s (sits stmts) m
  around stmts = record { module_is = module_is; known = k; instantiable = instantiable }

  -- from its first statement on it does the tasks
  abbrev DoesTasks : List c.Stmt → Type 0
  DoesTasks stmts = FollowsTasks s (sits stmts) 0 (IsTaking s (sits stmts) m false false 0) stmts (tasks_of m.tree)

  abbrev imports : List Import
  imports = filter is_taken m.tree.imports

  -- its beginning and the imports, before the tables
  taken_first : (stmts rest : List c.Stmt) (tasks : List Task) → (tests_limits m.tree ≡ true → CanTest (sits stmts) m.tree)
      → FollowsTasks s (sits stmts) 62 (IsMaking s (sits stmts) m false false []) rest tasks
      → FollowsTasks s (sits stmts) 0 (IsTaking s (sits stmts) m false false 0) (c.Null ∷ (takes_from m 0 imports ++ rest))
      (Begin ∷ (map Take imports ++ tasks))
  taken_first stmts rest tasks can follows =
      begin_follows s (sits stmts) (IsTaking s (sits stmts) m false false 0) (takes_from m 0 imports ++ rest) (map Take imports ++ tasks)
      (taking_follows s (sits stmts) m 62 rest tasks (omega (arith, instantiable.few_globals)) k.taken
      (may_test is_taken m.tree.imports can) (lows is_taken m.tree.imports
      (all_front Low (flat_map table_of_import m.tree.imports) (map (λ t. t.limits) m.tree.tables)
      (all_front Low (table_space m.tree) (memory_space m.tree) instantiable.maxima))
      (all_front Low (flat_map memory_of_import m.tree.imports) (map (λ t. t.limits) m.tree.memories)
      (all_behind Low (table_space m.tree) (memory_space m.tree) instantiable.maxima)))
      follows)

  -- all in one function
  whole_does : DoesTasks (whole_stmts m)
  whole_does =
      let g : Seat = sits (whole_stmts m) in
      taken_first (whole_stmts m) (stmts_making m.tree (stmts_behind m (traps m))) (tasks_making m.tree (tasks_behind m.tree))
      (λ used. (used, limits_found m instantiable.few_segments used)) (making_follows s g m (around (whole_stmts m))
      (filled_follows s g m (traps m) refl (around (whole_stmts m)) (λ used. bounds_found m instantiable.few_segments used) calls_follow
      (data_placed m instantiable.few_segments)))

  -- in parts
  calling_does : (parts : List Part) → parts ≡ all_parts m.tree → PartsAreDefined p u m.tree 0 parts
      → DoesTasks (calling_stmts m (length parts))
  calling_does parts are defined =
      let stmts : List c.Stmt = calling_stmts m (length parts) in
      let g : Seat = sits stmts in
      let trap : List c.Stmt = trap_if (tests_limits m.tree) limits_label (makers.trap ImportLimits) ++ [] in
      let ends : List c.Stmt = start_stmts m m.tree.start ++ (c.ReturnNone ∷ trap) in
      taken_first stmts
      (map (λ (t : LimitsEntry). make_table t.limits) m.tree.tables
      ++ (map (λ (t : LimitsEntry). make_memory t.limits) m.tree.memories
      ++ (map call_part (range_with_len 0 (length parts)) ++ ends))) (tasks_making m.tree (tasks_behind m.tree))
      (λ used. (used, calling_limits_found m (length parts) used)) (objects_follow s g m (tasks_behind m.tree) (around stmts)
      (rw (ap (calls 0) (sym are) ∙ sym (calls_are 0 parts)) at (parts_follow s g m (around stmts) refl calls_follow trap
      (subst (PartsAreDefined p u m.tree 0) are defined))))

  -- the module is large, or it has no parts
  all_tasks : DoesTasks (init_stmts m)
  all_tasks = by (is_large m.tree) k.parts
    where
      by : (large : Bool) → PartsAreDefined p u m.tree 0 (if large then all_parts m.tree else [])
          → DoesTasks (stmts_with m (length (if large then all_parts m.tree else [])))
      by false defined = whole_does
      by true defined = some (all_parts m.tree) refl defined
        where
          some : (parts : List Part) → parts ≡ all_parts m.tree → PartsAreDefined p u m.tree 0 parts
              → DoesTasks (stmts_with m (length parts))
          some [] are defined = whole_does
          some (x ∷ parts) are defined = calling_does (x ∷ parts) are defined

follows_as : (s : LinkedSet) (g : Seat) (from : Progress) (n : ℕ) (result : exec.Called) → Instantiates s g 0 from n result
    → InitFollows g.program s g.unit g.pending g.last from n result
follows_as s g from n (exec.Back left value made trail) h = record
    { machine = h.machine; together = h.together; statements = h.statements; way = h.way; paid = h.paid }
follows_as s g from n (exec.CallStops why made trail) h = h

pub inits_follow : InitsFollow
inits_follow p s u m module_is k instantiable calls_follow n made trail mach pending below together unmade =
    rw (begins p u false (init_symbol_of m.name) m.tree (init_stmts m) mach pending below k.init) (follows_as s g (at g mach (init_stmts m)
    (init_vars m.tree)) n (do_tasks s u (tasks_of m.tree) n made trail)
    ((all_tasks p s u m pending below module_is k instantiable calls_follow).follow n made trail mach (init_vars m.tree) here))
  where
    g : Seat
    g = seat p u k.init.item (init_stmts m) pending below

    here : IsTaking s g m false false 0 mach made trail (init_vars m.tree)
    here = record {
      together = together;
      locals = init_locals m.tree;
      nothing = unmade.nothing;
      x = unmade.now;
      x_is = unmade.unit;
      declared = unmade.declared;
      table_set = λ is. absurd cc;
      memory_set = λ is. absurd cc;
      globals_set = λ k less. absurd (omega (arith, less));
    }
