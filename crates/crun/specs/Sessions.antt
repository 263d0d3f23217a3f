-- What a session is: a C run of its units with its hosts, over the calls that were made so far.
use Rattle.std.specs.Prelude.{◌≡◌, length, ◌-◌, ◌≤◌, ℕ, List, [], ◌∷◌, ◌++◌, map, Option, Some, None, ⊤}
use Rattle.w2c_base.specs.declared.value.Value.{Value}
use Rattle.w2c_base.specs.Run.{CallEnded, Event, Phase, Init, Reply, Trail, asks_in, values_in}
use Rattle.c_tree.specs.declared.tree.Item.{Item}
use Rattle.c_tree.specs.View.{unit_of}
use Rattle.c_meaning.specs.State.{Objects, Trapped, Undefined, UnitFunc}
use Rattle.c_meaning.specs.Linking.{Program, SymbolCall, called_func, init_functions}
use Rattle.c_meaning.specs.Machine.{fresh}
use Rattle.c_meaning.specs.Run.{CRun, Ended, Entry, OutOfSteps, Stopped, after, begin_entry, entries_of}
use Rattle.c_link.specs.declared.host_symbol.HostSymbol.{HostSymbol}
use Rattle.c_objects.specs.declared.store.UnitObjects.{UnitObjects}
use Rattle.c_objects.specs.Stores.{units_of}
use Rattle.c_objects.specs.Views.{item_name}
use Rattle.crun_startup.specs.Names.{naming_of}
use Rattle.c_hosts.specs.Asking.{hosts_of}
use Rattle.c_hosts.specs.declared.host.HostModule.{Ghosts as HostModule}
use Rattle.c_hosts.specs.declared.journal.Asked.{Asked}
use Rattle.c_hosts.specs.Journals.{ask_of, events_in, replies_in}
use Rattle.crun.specs.declared.engine.Engine.{Engine}
use Rattle.crun.specs.declared.outcome.Kept.{Kept}
use Rattle.crun.specs.declared.outcome.Kept.TheVariants as kept
use Rattle.crun.specs.declared.outcome.Outcome.{Outcome}
use Rattle.crun.specs.declared.outcome.Outcome.TheVariants as outcome
use Rattle.crun.specs.declared.outcome.Phase.{Phase as AnyPhase}
use Rattle.crun.specs.declared.outcome.Phase.TheVariants as phase
use Rattle.crun.specs.declared.outcome.Standing.{Standing}
use Rattle.crun.specs.declared.outcome.Standing.TheVariants as standing
use Rattle.crun.specs.Engines.{
  machine_at,
  machine_with,
  naming_in,
  place_of,
  program_in,
  FunctionCame,
  FunctionCamePart,
  IsReady,
  IsStarted,
}

-- the trail behind what was told, with these replies still to come
abbrev pub trail_of : List Reply → List Event → Trail
trail_of later told = record { replies = later; events = told }

-- the run behind n statements stands where these entries have ended, the last in this phase, whatever is begun next
-- and whatever is replied later; the machine has this w2c_depth and these objects, and this was told
pub record BehindAt (p : Program) (depth : ℕ) (units : List Objects) (journal : List Asked) (n : ℕ) (entries : List Entry) (last : Phase)
    (told : List Event) : Type 0 where
  pub asks : asks_in told ≡ map ask_of journal
  pub reaches : (later : List Reply) (more : List Entry)
      → after p n (begin_entry p (fresh p (replies_in journal ++ later)) (Init 0) (entries ++ more))
      ≡ begin_entry p (machine_with depth units (trail_of later told)) last more

-- the value of the last call that ended
abbrev pub last_value : List (Option Value) → Option Value
last_value [] = None
last_value (v ∷ []) = v
last_value (v ∷ w ∷ values) = last_value (w ∷ values)

-- an outcome is that of a run
abbrev pub IsEnd : Outcome → CRun → Type 0
IsEnd (outcome.Ended value) run = (run.outcome ≡ Ended) × (last_value (values_in run.events) ≡ value)
IsEnd (outcome.Trapped kind) run = run.outcome ≡ Stopped (Trapped kind)
IsEnd (outcome.Undefined u) run = run.outcome ≡ Stopped (Undefined u.kind (place_of u))
IsEnd outcome.OutOfSteps run = run.outcome ≡ OutOfSteps

-- the run came to this outcome in this phase; this was told, its asks are those of the journal, and its objects are these
pub record IsOutcome (o : Outcome) (phase : Phase) (journal : List Asked) (told : List Event) (units : List Objects) (run : CRun)
    : Type 0 where
  pub end : IsEnd o run
  pub phase_is : run.phase ≡ phase
  pub events : run.events ≡ told
  pub asks : asks_in run.events ≡ map ask_of journal
  pub objects : run.units ≡ units

-- how many functions of a program run first
abbrev pub init_count : Program → ℕ
init_count p = length (init_functions p)

-- how many of all functions that run first were begun where these came to an outcome: each of them where it is an end, else at
-- least one
abbrev pub AreBegun : Outcome → ℕ → ℕ → Type 0
AreBegun (outcome.Ended value) begun all = begun ≡ all
AreBegun (outcome.Trapped kind) begun all = 1 ≤ begun
AreBegun (outcome.Undefined u) begun all = 1 ≤ begun
AreBegun outcome.OutOfSteps begun all = 1 ≤ begun

-- what was told behind a call that asked this: the end of a call that ended is told
abbrev pub told_by : List Event → List Asked → Outcome → List Event
told_by told asks (outcome.Ended value) = (told ++ events_in asks) ++ CallEnded value ∷ []
told_by told asks (outcome.Trapped kind) = told ++ events_in asks
told_by told asks (outcome.Undefined u) = told ++ events_in asks
told_by told asks outcome.OutOfSteps = told ++ events_in asks

-- no call behind one that ended has a part in what the run came to; behind one that did not, any may be listed
abbrev pub IsLast : Outcome → List SymbolCall → Type 0
IsLast (outcome.Ended value) rest = rest ≡ []
IsLast (outcome.Trapped kind) rest = ⊤
IsLast (outcome.Undefined u) rest = ⊤
IsLast outcome.OutOfSteps rest = ⊤

-- what an outcome leaves of a session
abbrev pub standing_of : Outcome → Standing
standing_of (outcome.Ended value) = standing.Ready
standing_of (outcome.Trapped kind) = standing.Over (kept.Trapped kind)
standing_of (outcome.Undefined u) = standing.Over (kept.Undefined u)
standing_of outcome.OutOfSteps = standing.Over kept.OutOfSteps

abbrev pub phase_of : Standing → AnyPhase
phase_of standing.Fresh = phase.Fresh
phase_of standing.Ready = phase.Ready
phase_of (standing.Over why) = phase.Over

-- what contracts see of a session: its units and hosts, the steps at its start and those that are left, w2c_depth, the
-- objects, the journal, how many init functions were begun, and where it stands
pub record State (H : Type 0) : Type 0 where
  pub linked : List (List Item) × List HostSymbol
  pub hosts : List H
  pub steps : ℕ
  pub left : ℕ
  pub depth : ℕ
  pub objects : List UnitObjects
  pub journal : List Asked
  pub inits_run : ℕ
  pub standing : Standing

abbrev pub state_of : {H : Type 0} → Engine H → ℕ → ℕ → Standing → State H
state_of e steps inits_run standing = record {
  linked = e.linked;
  hosts = e.hosts.list.items;
  steps = steps;
  left = e.left;
  depth = e.depth;
  objects = e.startup.store.units.items;
  journal = e.hosts.journal;
  inits_run = inits_run;
  standing = standing;
}

-- the program that runs, and its objects
abbrev pub program_of : {H : Type 0} → HostModule H → State H → Program
program_of m s = record { units = map unit_of s.linked.0; hosts = hosts_of m s.hosts }

abbrev pub objects_of : {H : Type 0} → State H → List Objects
objects_of s = units_of (naming_of (map unit_of s.linked.0)) (naming_of (map unit_of s.linked.0)) s.objects

-- the session stands behind these calls: all of them have ended, and this was told
pub record Stands {H : Type 0} (m : HostModule H) (s : State H) (calls : List SymbolCall) (told : List Event) : Type 0 where
  pub ready : s.standing ≡ standing.Ready
  pub fewer : s.left ≤ s.steps
  pub last : Phase
  pub values : length (values_in told) ≡ length calls
  pub behind : BehindAt (program_of m s) s.depth (objects_of s) s.journal (s.steps - s.left) (entries_of (program_of m s) calls) last told

-- before the init functions nothing was run, and the objects are those of program startup
pub record IsAtStart {H : Type 0} (m : HostModule H) (s : State H) : Type 0 where
  pub left : s.left ≡ s.steps
  pub depth : s.depth ≡ 0
  pub none_begun : s.inits_run ≡ 0
  pub journal : s.journal ≡ []
  pub objects : (replies : List Reply) → machine_with 0 (objects_of s) (trail_of replies []) ≡ fresh (program_of m s) replies

-- what holds of a session wherever it stands
abbrev pub IfAlive : Standing → Type 0 → Type 0
IfAlive standing.Fresh P = P
IfAlive standing.Ready P = P
IfAlive (standing.Over why) P = ⊤

-- what a session keeps to: while it is not over its objects are there and typed, and nothing was run while it is fresh
pub record Keeps {H : Type 0} (m : HostModule H) (e : Engine H) (steps inits_run : ℕ) (now : Standing) : Type 0 where
  pub started : IsStarted m e
  pub fewer : e.left ≤ steps
  pub ready : IfAlive now (IsReady m e)
  pub fresh : now ≡ standing.Fresh → IsAtStart m (state_of e steps inits_run now)

abbrev pub IfOver : Standing → (Kept → Type 0) → Type 0
IfOver standing.Fresh P = ⊤
IfOver standing.Ready P = ⊤
IfOver (standing.Over why) P = P why

-- the objects are those of program startup, and no host was asked
pub record IsFirst {H : Type 0} (m : HostModule H) (e : Engine H) : Type 0 where
  pub journal : e.hosts.journal ≡ []
  pub objects : (replies : List Reply) → machine_at e (trail_of replies []) ≡ fresh (program_in m e) replies

-- the function of a symbol came to this, as the function that an entry begins
pub record SymbolCame {H : Type 0} (m : HostModule H) (before : Engine H) (c : SymbolCall) (asks : List Asked) (o : Outcome) (n : ℕ)
    (behind : Engine H) : Type 0 where
  pub unit : ℕ
  pub item : ℕ
  pub called : called_func (program_in m before) c ≡ Some (UnitFunc unit (item_name (naming_in before) unit item))
  pub came : FunctionCame m before unit item c.args asks o n behind

pub record SymbolCamePart {H : Type 0} (m : HostModule H) (before : Engine H) (c : SymbolCall) (asks : List Asked) (most : ℕ) : Type 0 where
  pub unit : ℕ
  pub item : ℕ
  pub called : called_func (program_in m before) c ≡ Some (UnitFunc unit (item_name (naming_in before) unit item))
  pub came : FunctionCamePart m before unit item c.args asks most
