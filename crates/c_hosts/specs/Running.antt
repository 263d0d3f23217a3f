-- Functions of linked units that run with hosts, as runs of the meaning of C.
use Rattle.std.specs.Prelude.{◌≡◌, ◌≤◌, ℕ, List, ◌++◌, Option, Some, None, option_map}
use Rattle.w2c_base.specs.Run.{Reply, Event, Trail}
use Rattle.c_meaning.specs.State.{State, Trapped, Undefined, Stuck}
use Rattle.c_meaning.specs.Linking.{Program}
use Rattle.c_meaning.specs.Run.{Going, Pending, after, go_on}
use Rattle.c_meaning.specs.Step.{Step, Next, Back, Stops}
use Rattle.c_objects.specs.Stores.{AreStored}
use Rattle.c_objects.specs.Views.{value_of, Naming}
use Rattle.c_thread.specs.declared.control.LinkedUnit.{LinkedUnit}
use Rattle.c_thread.specs.declared.linked.LinkedStep.{LinkedStep}
use Rattle.c_thread.specs.declared.linked.LinkedStep.TheVariants as step
use Rattle.c_thread.specs.declared.linked.LinkedThread.{LinkedThread}
use Rattle.c_thread.specs.declared.signatures.FuncTypes.{FuncTypes}
use Rattle.c_thread.specs.FuncTypes.{AreFuncTypes}
use Rattle.c_thread.specs.Linked.{machine_in, place_in, state_in, step_in, IsLinked}
use Rattle.c_hosts.specs.declared.host.HostModule.{Ghosts as HostModule}
use Rattle.c_hosts.specs.declared.journal.Asked.{Asked}
use Rattle.c_hosts.specs.declared.running.Ending.{Ending}
use Rattle.c_hosts.specs.declared.running.Ending.TheVariants as ending
use Rattle.c_hosts.specs.Asking.{hosts_of, Answered}
use Rattle.c_hosts.specs.Journals.{events_in, replies_in}

-- the trail in front of these asks, where the replies and these behind them are still to come, and behind them
abbrev pub trail_before : List Asked → List Reply → List Event → Trail
trail_before asks later told = record { replies = replies_in asks ++ later; events = told }

abbrev pub trail_behind : List Asked → List Reply → List Event → Trail
trail_behind asks later told = record { replies = later; events = told ++ events_in asks }

-- what a function came to, or the statement that comes next where it did not end
abbrev pub step_at : Naming → Program → Trail → Option Ending → LinkedThread → Step
step_at names p trail None t = Next (state_in names p trail t)
step_at names p trail (Some (ending.Back value)) t = Back (machine_in names trail t) (option_map (value_of names) value)
step_at names p trail (Some (ending.Trapped kind)) t = Stops (machine_in names trail t) (Trapped kind)
step_at names p trail (Some (ending.Undefined kind)) t = Stops (machine_in names trail t) (Undefined kind (place_in t.top))
step_at names p trail (Some ending.Stuck) t = Stops (machine_in names trail t) Stuck

-- what a statement came to that asks no host a second time
abbrev pub settled_in : Naming → Program → Trail → LinkedStep → LinkedThread → Step
settled_in names p trail (step.Asks call) t = Stops (machine_in names trail t) Stuck
settled_in names p trail o t = step_in names p trail o t

-- a thread runs in this program, whose hosts are these, with these units and types
pub record IsThread {H : Type 0} (m : HostModule H) (names : Naming) (p : Program) (units : List LinkedUnit) (types : FuncTypes)
    (hosts : List H) (t : LinkedThread) : Type 0 where
  pub units_are : IsLinked names p units
  pub types_are : AreFuncTypes names p types
  pub hosts_are : p.hosts ≡ hosts_of m hosts
  pub stored : AreStored names t.store.units.items

-- after so many statements the thread's run stands where this thread's stands, or is over, with these asks between
abbrev pub Runs : {H : Type 0} → HostModule H → List LinkedUnit → FuncTypes → List H → LinkedThread → ℕ → List Asked
    → Option Ending → LinkedThread → Type 0
Runs m units types hosts before n asks e behind =
    (names : Naming) (p : Program) (pending : Pending) (later : List Reply) (told : List Event)
    → IsThread m names p units types hosts before
    → after p n (Going pending (state_in names p (trail_before asks later told) before))
    ≡ go_on p pending (step_at names p (trail_behind asks later told) e behind)

-- within so many statements the thread's run has told these asks and is on its way
abbrev pub RunsPart : {H : Type 0} → HostModule H → List LinkedUnit → FuncTypes → List H → LinkedThread → ℕ → List Asked → Type 0
RunsPart m units types hosts before most asks =
    (names : Naming) (p : Program) (pending : Pending) (later : List Reply) (told : List Event)
    → IsThread m names p units types hosts before
    → (n : ℕ) × (n ≤ most) × (s : State)
    × (after p n (Going pending (state_in names p (trail_before asks later told) before)) ≡ Going pending s)
    × (s.machine.trail ≡ trail_behind asks later told)

-- these asks were written down, and hosts answered them
pub record Asks {H : Type 0} (m : HostModule H) (hosts : List H) (journal asks : List Asked) (hosts' : List H) (journal' : List Asked)
    : Type 0 where
  pub written : journal' ≡ journal ++ asks
  pub answered : Answered m hosts asks hosts'
