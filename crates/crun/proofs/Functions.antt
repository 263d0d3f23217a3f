-- The run of one function: it begins as the meaning of C begins it, is never stuck, and leaves typed objects where it ended.
use Rattle.crun.proofs.Common.{◌≡◌, ℕ, true, List, [], ◌∷◌, map, Some, None, Option, sym, refl, ap, ◌∙◌, subst, append-nil, arith, Call}
use Rattle.crun.proofs.Common.{Event, Host, Init, Phase, Reply, Trail, Value, is_void, unit_of, Definition, Program, definition_at, Going}
use Rattle.crun.proofs.Common.{Pending, Progress, after, begun, go_on, CValue, Machine, Number, State, Stuck, Vars, Waiting, Step, Stops}
use Rattle.crun.proofs.Common.{begin, first_vars, next, after_typed, entry_typed, Begins, TypedMachine, TypedProgram, TypedRun, may_end}
use Rattle.crun.proofs.Common.{AreStored, machine_of, Naming, item_name, value_of, UnitObjects, HaveUnitTables, IsLinked, begun_in}
use Rattle.crun.proofs.Common.{below_in, items_at, machine_in, running_in, state_in, LinkedUnit, LinkedThread, answered_keep, hosts_of}
use Rattle.crun.proofs.Common.{Asks, IsThread, Runs, RunsPart, step_at, trail_before, trail_behind, HostModule, Asked, AreSymbols}
use Rattle.crun.proofs.Common.{naming_of, BeginsWith, Came, FunctionCamePart, IfEnded, IsReady, IsStarted, SameProgram, begins_at, entry_in}
use Rattle.crun.proofs.Common.{machine_at, naming_in, outcome_in, program_in, Engine, Outcome}
use Rattle.c_tree.specs.declared.tree.CType.{CType}
use Rattle.c_tree.specs.declared.tree.CType.TheVariants as type
use Rattle.c_objects.specs.declared.held.Held.{Held}
use Rattle.c_objects.specs.declared.held.Held.TheVariants as held
use Rattle.c_objects.specs.declared.store.Store.{Store}
use Rattle.c_machine.specs.Threads.{definition_in}
use Rattle.c_thread.specs.declared.linked.LinkedFrame.{LinkedFrame}
use Rattle.c_thread.specs.FuncTypes.{AreFuncTypes}
use Rattle.c_hosts.specs.declared.asking.Hosts.{Hosts}
use Rattle.c_hosts.specs.declared.running.Ending.{Ending}
use Rattle.c_hosts.specs.declared.running.Ending.TheVariants as ending
use Rattle.c_hosts.proofs.Runs.{behind_none}
use Rattle.crun.specs.declared.outcome.Outcome.TheVariants as outcome

-- arguments as parameters hold them
pub held_arguments : (names : Naming) (args : List Value) → map (value_of names) (map held.Number args) ≡ map Number args
held_arguments names [] = refl
held_arguments names (v ∷ args) = ap (λ rest. Number v ∷ rest) (held_arguments names args)

-- one entry alone, pending
abbrev pub alone_in : Phase → Pending
alone_in phase = record { phase = phase; entries = [] }

-- a function that is not stuck as it begins goes on, where the machine stands
module _ (p : Program) (phase : Phase) (u : ℕ) (m : Machine) (args : List CValue) (pending : Pending) where
  abbrev pub Goes : Step → Type 0
  Goes step = (s : State) × (begun pending step ≡ Going pending s) × (s.machine ≡ m)

  abbrev started : Definition → Option Vars → Step
  started d None = Stops m Stuck
  started d (Some vars) = next m (record {
    unit = u;
    item = d.item;
    result = d.func.result;
    stmts = d.body.stmts;
    rest = d.body.stmts;
    vars = vars;
  }) []

  goes_on : (d : Definition) (o : Option Vars) → TypedRun p (begun (alone_in phase) (started d o)) → Goes (started d o)
  goes_on d None typed = absurd (typed.0 refl)
  goes_on d (Some vars) typed = (_, refl, refl)

  pub begun_goes : (o : Option Definition) → TypedRun p (begun (alone_in phase) (begin o u m args [])) → Goes (begin o u m args [])
  begun_goes None typed = absurd (typed.0 refl)
  begun_goes (Some d) typed = goes_on d (first_vars d args) typed

-- what may end an init function may end a call
pub void_ends : (t : CType) → is_void t ≡ true → may_end (Call 0) t ≡ true
void_ends type.Void void = refl
void_ends _ void = absurd cc

module _ {H : Type 0} (m : HostModule H) (e : Engine H) (unit item : ℕ) (args : List Value) where
  abbrev p : Program
  p = program_in m e

  abbrev names : Naming
  names = naming_in e

  -- the function's run from its beginning is typed
  pub typed_run : IsReady m e → (phase : Phase) → Begins p (entry_in e unit item args phase) → (trail : Trail) (n : ℕ)
      → TypedRun p (after p n (begins_at m e unit item args (alone_in phase) trail))
  typed_run ready phase begins trail n =
      after_typed p ready.started.program n (begins_at m e unit item args (alone_in phase) trail)
      (entry_typed p ready.started.program (machine_at e trail) phase (entry_in e unit item args phase) (ready.typed trail) begins)

  -- an init function comes back without a value
  pub init_gives_none : IsReady m e → (k : ℕ) → Begins p (entry_in e unit item args (Init k))
      → (n : ℕ) (before behind : Trail) (machine : Trail → Machine)
      (value : Option Value)
      → Came p (alone_in (Init k)) machine behind (outcome.Ended value)
      (after p n (begins_at m e unit item args (alone_in (Init k)) before))
      → value ≡ None
  init_gives_none ready k begins n before behind machine None came = refl
  init_gives_none ready k begins n before behind machine (Some v) came =
      absurd ((subst (TypedRun p) came (typed_run ready (Init k) begins before n)).0 refl)

  -- before its first statement it has told nothing
  pub told_nothing : IsReady m e → Begins p (entry_in e unit item args (Call 0)) → (most : ℕ) → FunctionCamePart m e unit item args [] most
  told_nothing ready begins most pending later told =
      let goes = begun_goes p (Call 0) unit (machine_at e (trail_before [] later told)) (map Number args) pending
      (definition_at p unit (item_name names unit item)) (typed_run ready (Call 0) begins (trail_before [] later told) 0) in
      (0, omega arith, goes.0, goes.1, ap (λ (m : Machine). m.trail) goes.2 ∙ sym (behind_none later told))

  module _ (ready : IsReady m e) (values : List Held) (held_are : values ≡ map held.Number args) (us : List LinkedUnit)
      (us_are : us ≡ e.startup.units.items) (o : Option LinkedFrame)
      (begin_is : (names : Naming) (p : Program) (machine : Machine) (below : List Waiting) → IsLinked names p us
      → begin (definition_in (items_at p unit) item) unit machine (map (value_of names) values) below ≡ begun_in names p machine o below)
    where
      -- it begins where the frame stands
      begins_so : (pending : Pending) (trail : Trail)
          → begins_at m e unit item args pending trail ≡ begun pending (begun_in names p (machine_at e trail) o [])
      begins_so pending trail =
          ap (λ d. begun pending (begin d unit (machine_at e trail) (map Number args) [])) (ready.started.units_are.definitions unit item)
          ∙ ap (λ vs. begun pending (begin (definition_in (items_at p unit) item) unit (machine_at e trail) vs []))
          (sym (ap (map (value_of names)) held_are ∙ held_arguments names args))
          ∙ ap (begun pending) (begin_is names p (machine_at e trail) [] (subst (IsLinked names p) (sym us_are) ready.started.units_are))

      pub begins_with : (f : LinkedFrame) → o ≡ Some f → BeginsWith m e unit item args f
      begins_with f is pending trail = begins_so pending trail ∙ ap (λ o. begun pending (begun_in names p (machine_at e trail) o [])) is

      -- so there is one
      pub begins_somewhere : Begins p (entry_in e unit item args (Call 0)) → o ≡ None → ⊥
      begins_somewhere begins none =
          let trail : Trail = record { replies = []; events = [] } in
          let typed = subst (TypedRun p) (begins_so (alone_in (Call 0)) trail
          ∙ ap (λ o. begun (alone_in (Call 0)) (begun_in names p (machine_at e trail) o [])) none)
          (typed_run ready (Call 0) begins trail 0) in
          typed.0 refl

  -- the run of the function is the run of the thread that begins so
  module _ (ready : IsReady m e) (top : LinkedFrame) (begins : BeginsWith m e unit item args top) (us : List LinkedUnit)
      (us_are : us ≡ e.startup.units.items) (t : LinkedThread) (store_is : t.store ≡ e.startup.store) (depth_is : t.depth ≡ e.depth)
      (top_is : t.top ≡ top) (none_below : t.below.items ≡ []) where
    thread_is : IsThread m names p us e.startup.types e.hosts.list.items t
    thread_is = record {
      units_are = subst (IsLinked names p) (sym us_are) ready.started.units_are;
      types_are = ready.started.types_are;
      hosts_are = refl;
      stored = subst (λ (s : Store). AreStored names s.units.items) (sym store_is) ready.stored;
    }

    starts : (trail : Trail) → state_in names p trail t
        ≡ record { machine = machine_at e trail; running = running_in names p top; below = [] }
    starts trail =
        ap (λ (s : Store). stands_at t.depth s.units.items t.top t.below.items) store_is
        ∙ ap (λ d. stands_at d e.startup.store.units.items t.top t.below.items) depth_is
        ∙ ap (λ f. stands_at e.depth e.startup.store.units.items f t.below.items) top_is
        ∙ ap (stands_at e.depth e.startup.store.units.items top) none_below
      where
        stands_at : ℕ → List UnitObjects → LinkedFrame → List LinkedFrame → State
        stands_at depth os f below =
            record { machine = machine_of names depth trail os; running = running_in names p f; below = below_in names p below }

    starts_so : (pending : Pending) (trail : Trail) → begins_at m e unit item args pending trail ≡ Going pending (state_in names p trail t)
    starts_so pending trail = begins pending trail ∙ ap (Going pending) (sym (starts trail))

    pub came_there : (n : ℕ) (asks : List Asked) (o : Option Ending) (behind : LinkedThread)
        → Runs m us e.startup.types e.hosts.list.items t n asks o behind
        → (pending : Pending) (later : List Reply) (told : List Event)
        → after p n (begins_at m e unit item args pending (trail_before asks later told))
        ≡ go_on p pending (step_at names p (trail_behind asks later told) o behind)
    came_there n asks o behind runs pending later told =
        ap (after p n) (starts_so pending (trail_before asks later told)) ∙ runs names p pending later told thread_is

    pub came_part : (most : ℕ) (asks : List Asked) → RunsPart m us e.startup.types e.hosts.list.items t most asks
        → FunctionCamePart m e unit item args asks most
    came_part most asks part pending later told =
        let r = part names p pending later told thread_is in
        (r.0, r.1, r.2, ap (after p r.0) (starts_so pending (trail_before asks later told)) ∙ r.3, r.4)

  -- it is not stuck, and comes back with a number or with nothing
  module _ (ready : IsReady m e) (begins : Begins p (entry_in e unit item args (Call 0))) (n : ℕ) (before behind : Trail) where
    abbrev stands : Option Ending → LinkedThread → Progress
    stands o t = go_on p (alone_in (Call 0)) (step_at names p behind o t)

    abbrev IsThere : Option Ending → LinkedThread → Type 0
    IsThere o t = after p n (begins_at m e unit item args (alone_in (Call 0)) before) ≡ stands o t

    typed_there : (o : Option Ending) (t : LinkedThread) → IsThere o t → TypedRun p (stands o t)
    typed_there o t is = subst (TypedRun p) is (typed_run ready (Call 0) begins before n)

    pub has_outcome : (o : Option Ending) (t : LinkedThread) → IsThere o t → outcome_in o t.top ≡ None → ⊥
    has_outcome (Some ending.Stuck) t is none = (typed_there (Some ending.Stuck) t is).0 refl
    has_outcome (Some (ending.Back (Some (held.Pointer to)))) t is
        none = (typed_there (Some (ending.Back (Some (held.Pointer to)))) t is).0 refl
    has_outcome (Some (ending.Back (Some (held.FuncPointer to)))) t is none =
        (typed_there (Some (ending.Back (Some (held.FuncPointer to)))) t is).0 refl
    has_outcome _ t is none = absurd cc

    -- where it came back the objects are typed
    pub typed_behind : (o : Option Ending) (t : LinkedThread) (value : Option Value) → IsThere o t → outcome_in o t.top
        ≡ Some (outcome.Ended value)
        → (trail : Trail) → TypedMachine p (machine_in names trail t)
    typed_behind (Some (ending.Back None)) t value is ended trail =
        (typed_there (Some (ending.Back None)) t is).1 refl (machine_in names trail t) refl
    typed_behind (Some (ending.Back (Some (held.Number v)))) t value is ended trail =
        (typed_there (Some (ending.Back (Some (held.Number v)))) t is).1 refl (machine_in names trail t) refl
    typed_behind _ t value is ended trail = absurd cc

-- what holds behind an end
pub if_ended : (o : Outcome) (P : Type 0) → ((value : Option Value) → o ≡ outcome.Ended value → P) → IfEnded o P
if_ended (outcome.Ended value) P h = h value refl
if_ended (outcome.Trapped kind) P h = tt
if_ended _ P h = tt

-- an outcome is where the run stands
pub outcome_came : (p : Program) (names : Naming) (t : LinkedThread) (pending : Pending) (trail : Trail) (o : Option Ending)
    (out : Outcome) (to : Progress) → outcome_in o t.top ≡ Some out → to ≡ go_on p pending (step_at names p trail o t)
    → Came p pending (λ trail. machine_in names trail t) trail out to
outcome_came p names t pending trail o out to is there = go o is there
  where
    so : (x : Outcome) → Came p pending (λ trail. machine_in names trail t) trail x to → Some x ≡ Some out
        → Came p pending (λ trail. machine_in names trail t) trail out to
    so x came e = let same : x ≡ out = cc in subst (λ y. Came p pending (λ trail. machine_in names trail t) trail y to) same came

    go : (o : Option Ending) → outcome_in o t.top ≡ Some out → to ≡ go_on p pending (step_at names p trail o t)
        → Came p pending (λ trail. machine_in names trail t) trail out to
    go None is there = so outcome.OutOfSteps (state_in names p trail t, there, refl) is
    go (Some (ending.Trapped kind)) is there = so (outcome.Trapped kind) there is
    go (Some (ending.Undefined kind)) is there =
        so (outcome.Undefined (record { kind = kind; unit = t.top.unit; item = t.top.item; statement = t.top.at })) there is
    go (Some (ending.Back None)) is there = so (outcome.Ended None) there is
    go (Some (ending.Back (Some (held.Number v)))) is there = so (outcome.Ended (Some v)) there is
    go _ is there = absurd cc

-- ---- the program that runs lasts

-- no host was asked
pub asks_none : {H : Type 0} (m : HostModule H) (e : Engine H)
    → Asks m e.hosts.list.items e.hosts.journal [] e.hosts.list.items e.hosts.journal
asks_none m e = record { written = sym (append-nil e.hosts.journal); answered = refl }

-- the engine behind a run: what the thread and the hosts became, and the steps that are left
abbrev pub engine_behind : {H : Type 0} → Engine H → LinkedThread → Hosts H → ℕ → Engine H
engine_behind e thread hosts left = record {
  linked = e.linked;
  startup = record { units = e.startup.units; symbols = e.startup.symbols; types = e.startup.types; store = thread.store };
  depth = thread.depth;
  hosts = hosts;
  left = left;
  not_made = e.not_made;
}

-- behind asks the hosts offer what they offered
pub same_behind : {H : Type 0} (m : HostModule H) (e : Engine H) (thread : LinkedThread) (hosts : Hosts H) (left : ℕ) (asks : List Asked)
    → Asks m e.hosts.list.items e.hosts.journal asks hosts.list.items hosts.journal → SameProgram m e (engine_behind e thread hosts left)
same_behind m e thread hosts left asks x = record {
  linked = refl;
  units = refl;
  types = refl;
  symbols = refl;
  not_made = refl;
  hosts = answered_keep m e.hosts.list.items asks hosts.list.items x.answered;
}

module _ {H : Type 0} (m : HostModule H) (before behind : Engine H) where
  pub same_program : SameProgram m before behind → program_in m behind ≡ program_in m before
  same_program same = ap (λ l. record { units = map unit_of l.0; hosts = hosts_of m behind.hosts.list.items }) same.linked
      ∙ ap (λ (hs : List Host). record { units = map unit_of before.linked.0; hosts = hs }) same.hosts

  pub still_started : SameProgram m before behind → IsStarted m before → IsStarted m behind
  still_started same was = record {
    program = subst TypedProgram (sym program_is) was.program;
    tables = subst HaveUnitTables (sym units_same) was.tables;
    units_are = rw units_same (over_program (λ p. IsLinked (naming_of p.units) p before.startup.units.items) was.units_are);
    types_are = rw same.types (over_program (λ p. AreFuncTypes (naming_of p.units) p before.startup.types) was.types_are);
    symbols_are = subst (λ s. AreSymbols (naming_in behind) (program_in m behind) s.value) (sym same.symbols)
        (over_program (λ p. AreSymbols (naming_of p.units) p before.startup.symbols.value) was.symbols_are);
    not_made = same.not_made ∙ was.not_made;
  }
    where
      units_same : behind.startup.units.items ≡ before.startup.units.items
      units_same = ap (λ us. us.items) same.units

      program_is : program_in m behind ≡ program_in m before
      program_is = same_program same

      over_program : (P : Program → Type 0) → P (program_in m before) → P (program_in m behind)
      over_program P was = subst P (sym program_is) was

  -- where it ended the next function can be begun
  pub still_ready : SameProgram m before behind → IsReady m before → AreStored (naming_in before) behind.startup.store.units.items
      → ((trail : Trail) → TypedMachine (program_in m before) (machine_at behind trail)) → IsReady m behind
  still_ready same was stored typed = record {
    started = still_started same was.started;
    stored = subst (λ l. AreStored (naming_of (map unit_of l.0)) behind.startup.store.units.items) (sym same.linked) stored;
    typed = λ trail. subst (λ p. TypedMachine p (machine_at behind trail)) (sym (same_program same)) (typed trail);
  }
