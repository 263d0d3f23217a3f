-- What lasts from one function's run to the next, as a program of the meaning of C that runs.
use Rattle.std.specs.Prelude.{◌≡◌, ◌≤◌, ℕ, List, [], map, Option, Some, None, option_map, ⊤}
use Rattle.w2c_base.specs.declared.value.Value.{Value}
use Rattle.w2c_base.specs.Run.{Event, Phase, Reply, Trail}
use Rattle.c_tree.specs.View.{unit_of}
use Rattle.c_meaning.specs.State.{Machine, Number, Objects, State, Trapped, Undefined, UnitFunc}
use Rattle.c_meaning.specs.Linking.{Program}
use Rattle.c_meaning.specs.Run.{Entry, Going, Over, Pending, Progress, Stopped, after, begun, came_back, over}
use Rattle.c_meaning.specs.Step.{call}
pub use Rattle.c_meaning.specs.Views.{place_of}
use Rattle.c_sound.specs.Typed.{TypedMachine, TypedProgram}
use Rattle.c_objects.specs.declared.held.Held.{Held}
use Rattle.c_objects.specs.declared.held.Held.TheVariants as held
use Rattle.c_objects.specs.Stores.{units_of, AreStored}
use Rattle.c_objects.specs.Views.{item_name, Naming}
use Rattle.c_thread.specs.declared.linked.LinkedFrame.{LinkedFrame}
use Rattle.c_thread.specs.FuncTypes.{AreFuncTypes}
use Rattle.c_thread.specs.Linked.{running_in, HaveUnitTables, IsLinked}
use Rattle.crun_startup.specs.Called.{AreSymbols}
use Rattle.crun_startup.specs.Names.{naming_of}
use Rattle.c_hosts.specs.declared.host.HostModule.{Ghosts as HostModule}
use Rattle.c_hosts.specs.declared.journal.Asked.{Asked}
use Rattle.c_hosts.specs.declared.running.Ending.{Ending}
use Rattle.c_hosts.specs.declared.running.Ending.TheVariants as ending
use Rattle.c_hosts.specs.Asking.{hosts_of}
use Rattle.c_hosts.specs.Running.{trail_before, trail_behind}
use Rattle.crun.specs.declared.engine.Engine.{Engine}
use Rattle.crun.specs.declared.outcome.Outcome.{Outcome}
use Rattle.crun.specs.declared.outcome.Outcome.TheVariants as outcome

-- a machine
abbrev pub machine_with : ℕ → List Objects → Trail → Machine
machine_with depth units trail = record { depth = depth; units = units; trail = trail }

-- the program that runs, the names of its units, and the machine behind what was told
abbrev pub program_in : {H : Type 0} → HostModule H → Engine H → Program
program_in m e = record { units = map unit_of e.linked.0; hosts = hosts_of m e.hosts.list.items }

abbrev pub naming_in : {H : Type 0} → Engine H → Naming
naming_in e = naming_of (map unit_of e.linked.0)

abbrev pub units_at : {H : Type 0} → Engine H → List Objects
units_at e = units_of (naming_in e) (naming_in e) e.startup.store.units.items

abbrev pub machine_at : {H : Type 0} → Engine H → Trail → Machine
machine_at e trail = machine_with e.depth (units_at e) trail

-- the tables are those of the units, whose types and objects are those of the program
pub record IsStarted {H : Type 0} (m : HostModule H) (e : Engine H) : Type 0 where
  pub program : TypedProgram (program_in m e)
  pub tables : HaveUnitTables e.startup.units.items
  pub units_are : IsLinked (naming_in e) (program_in m e) e.startup.units.items
  pub types_are : AreFuncTypes (naming_in e) (program_in m e) e.startup.types
  pub symbols_are : AreSymbols (naming_in e) (program_in m e) e.startup.symbols.value
  pub not_made : e.not_made ≡ record { bytes = []; most = Some 0 }

-- the objects are there, and hold what their types say
pub record IsReady {H : Type 0} (m : HostModule H) (e : Engine H) : Type 0 where
  pub started : IsStarted m e
  pub stored : AreStored (naming_in e) e.startup.store.units.items
  pub typed : (trail : Trail) → TypedMachine (program_in m e) (machine_at e trail)

-- the function that an item of a unit defines, as what is begun in a phase
abbrev pub entry_in : {H : Type 0} → Engine H → ℕ → ℕ → List Value → Phase → Entry
entry_in e unit item args phase = record { phase = phase; func = Some (UnitFunc unit (item_name (naming_in e) unit item)); args = args }

-- the run of the function from its beginning
abbrev pub begins_at : {H : Type 0} → HostModule H → Engine H → ℕ → ℕ → List Value → Pending → Trail → Progress
begins_at m e unit item args pending trail =
    begun pending (call (program_in m e) (UnitFunc unit (item_name (naming_in e) unit item)) (machine_at e trail) (map Number args) [])

-- the function begins with this frame, whatever is pending and whatever was told
abbrev pub BeginsWith : {H : Type 0} → HostModule H → Engine H → ℕ → ℕ → List Value → LinkedFrame → Type 0
BeginsWith m e unit item args f = (pending : Pending) (trail : Trail)
    → begins_at m e unit item args pending trail
    ≡ Going pending (record { machine = machine_at e trail; running = running_in (naming_in e) (program_in m e) f; below = [] })

-- what an ending is for those who called the function: none where it was stuck, or came back with a pointer
abbrev pub ended_with : Option Held → Option Outcome
ended_with None = Some (outcome.Ended None)
ended_with (Some (held.Number v)) = Some (outcome.Ended (Some v))
ended_with (Some (held.Pointer to)) = None
ended_with (Some (held.FuncPointer to)) = None

abbrev pub outcome_in : Option Ending → LinkedFrame → Option Outcome
outcome_in None f = Some outcome.OutOfSteps
outcome_in (Some (ending.Back value)) f = ended_with value
outcome_in (Some (ending.Trapped kind)) f = Some (outcome.Trapped kind)
outcome_in (Some (ending.Undefined kind)) f =
    Some (outcome.Undefined (record { kind = kind; unit = f.unit; item = f.item; statement = f.at }))
outcome_in (Some ending.Stuck) f = None

-- where a run stands behind an outcome of what was begun
abbrev pub Came : Program → Pending → (Trail → Machine) → Trail → Outcome → Progress → Type 0
Came p pending machine trail (outcome.Ended value) to = to ≡ came_back p pending (machine trail) pending.phase (option_map Number value)
Came p pending machine trail (outcome.Trapped kind) to = to ≡ Over (over pending (machine trail) (Stopped (Trapped kind)))
Came p pending machine trail (outcome.Undefined u) to = to ≡ Over (over pending (machine trail) (Stopped (Undefined u.kind (place_of u))))
Came p pending machine trail outcome.OutOfSteps to = (s : State) × (to ≡ Going pending s) × (s.machine ≡ machine trail)

-- the function's run came to this, with these asks between, whatever is pending and whatever is replied later
abbrev pub FunctionCame : {H : Type 0} → HostModule H → Engine H → ℕ → ℕ → List Value → List Asked → Outcome → ℕ → Engine H → Type 0
FunctionCame m before unit item args asks o n behind =
    (pending : Pending) (later : List Reply) (told : List Event)
    → Came (program_in m before) pending (machine_at behind) (trail_behind asks later told) o
    (after (program_in m before) n (begins_at m before unit item args pending (trail_before asks later told)))

-- within so many statements the function's run has told these asks and is on its way
abbrev pub FunctionCamePart : {H : Type 0} → HostModule H → Engine H → ℕ → ℕ → List Value → List Asked → ℕ → Type 0
FunctionCamePart m before unit item args asks most =
    (pending : Pending) (later : List Reply) (told : List Event)
    → (n : ℕ) × (n ≤ most) × (s : State)
    × (after (program_in m before) n (begins_at m before unit item args pending (trail_before asks later told)) ≡ Going pending s)
    × (s.machine.trail ≡ trail_behind asks later told)

-- an outcome behind which the next function can be begun
abbrev pub IfEnded : Outcome → Type 0 → Type 0
IfEnded (outcome.Ended value) P = P
IfEnded (outcome.Trapped kind) P = ⊤
IfEnded (outcome.Undefined u) P = ⊤
IfEnded outcome.OutOfSteps P = ⊤

-- only the objects, w2c_depth, the hosts' states, the journal and the steps that are left have changed
pub record SameProgram {H : Type 0} (m : HostModule H) (before behind : Engine H) : Type 0 where
  pub linked : behind.linked ≡ before.linked
  pub units : behind.startup.units ≡ before.startup.units
  pub types : behind.startup.types ≡ before.startup.types
  pub symbols : behind.startup.symbols ≡ before.startup.symbols
  pub not_made : behind.not_made ≡ before.not_made
  pub hosts : hosts_of m behind.hosts.list.items ≡ hosts_of m before.hosts.list.items
