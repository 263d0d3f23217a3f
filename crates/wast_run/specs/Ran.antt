-- What the run of linked units without hosts came to, in its last call or before it (C11, 5.1.2.3).
use Rattle.std.specs.Prelude.{◌≡◌, ◌<◌, ℕ, List, [], ◌∷◌, ◌++◌, map, string_bytes, Option, Some, None}
use Rattle.std.specs.Borrow.{Bor}
use Rattle.w2c_base.specs.declared.value.Value.{Value}
use Rattle.w2c_base.specs.Run.{Event, Phase, Call as InCall, values_in}
use Rattle.w2c_mangle.specs.declared.symbol.SymbolKind.TheVariants.{Func}
use Rattle.w2c_mangle.specs.Symbols.{export_symbol_of}
use Rattle.c_tree.specs.Tree as tree
use Rattle.c_meaning.specs.Linking.{Program, SymbolCall}
use Rattle.c_meaning.specs.State.{Trapped, Undefined}
use Rattle.c_meaning.specs.Run.{CRun, Ended, OutOfSteps, Stopped, c_run}
use Rattle.c_hosts.specs.Asking.{hosts_of}
use Rattle.c_hosts.specs.declared.host.HostModule.{Ghosts as HostModule}
use Rattle.crun.specs.declared.outcome.Outcome.{Outcome}
use Rattle.crun.specs.declared.outcome.Outcome.TheVariants as outcome
use Rattle.crun.specs.Engines.{place_of}
use Rattle.crun.specs.Sessions.{program_of, Stands, State}
use Rattle.wast_script.specs.declared.command.Call.{Call}
use Rattle.wast_run.specs.declared.runs.Came.{Came}
use Rattle.wast_run.specs.declared.runs.Came.TheVariants as came
use Rattle.wast_run.specs.declared.session_runs.Ran.{Ran}
use Rattle.wast_run.specs.declared.session_runs.Ran.TheVariants as ran

-- units that are linked with no hosts
abbrev pub alone : List (List tree.Item) → Program
alone units = record { units = units; hosts = [] }

-- a call by its symbol; calls, and a last one behind them
abbrev pub symbol_of : Call → SymbolCall
symbol_of call = record {
  symbol = export_symbol_of (string_bytes call.module_name) Func (string_bytes call.field_name);
  args = call.args;
}

abbrev pub symbols_in : List (Bor Call) → List SymbolCall
symbols_in calls = map (λ call. symbol_of call.now) calls

abbrev pub symbols_of : List (Bor Call) → Call → List SymbolCall
symbols_of kept last = symbols_in kept ++ symbol_of last ∷ []

-- an outcome that is no end
abbrev pub stop_in : Outcome → Option Outcome
stop_in (outcome.Ended value) = None
stop_in (outcome.Trapped kind) = Some (outcome.Trapped kind)
stop_in (outcome.Undefined u) = Some (outcome.Undefined u)
stop_in outcome.OutOfSteps = Some outcome.OutOfSteps

-- a run ended with this value of its last call
pub record EndsWith (value : Option Value) (run : CRun) : Type 0 where
  pub end : run.outcome ≡ Ended
  pub others : List (Option Value)
  pub last : values_in run.events ≡ others ++ value ∷ []

-- the outcome of a call is that of a run
abbrev pub IsOutcomeOf : Outcome → CRun → Type 0
IsOutcomeOf (outcome.Ended value) run = EndsWith value run
IsOutcomeOf (outcome.Trapped kind) run = run.outcome ≡ Stopped (Trapped kind)
IsOutcomeOf (outcome.Undefined u) run = run.outcome ≡ Stopped (Undefined u.kind (place_of u))
IsOutcomeOf outcome.OutOfSteps run = run.outcome ≡ OutOfSteps

-- the run came to this outcome in this phase
pub record CameTo (o : Outcome) (phase : Phase) (run : CRun) : Type 0 where
  pub is : IsOutcomeOf o run
  pub at : run.phase ≡ phase

-- the run came to this outcome, which is no end, before the call with this number
pub record StopsAt (o : Outcome) (count : ℕ) (run : CRun) : Type 0 where
  pub stop : stop_in o ≡ Some o
  pub is : IsOutcomeOf o run
  pub before : (k : ℕ) → run.phase ≡ InCall k → k < count

-- the run came to this outcome in its last call, which has this number, or before it
abbrev pub HasRan : CRun → ℕ → Ran → Type 0
HasRan run count (ran.Last o) = CameTo o (InCall count) run
HasRan run count (ran.Before o) = StopsAt o count run

-- what a run comes to for those who call exports; none where something undefined was done, or a run stops at an end
abbrev pub came_in : Ran → Option Came
came_in (ran.Last (outcome.Ended value)) = Some (came.Ended value)
came_in (ran.Last (outcome.Trapped kind)) = Some (came.Trapped kind)
came_in (ran.Last (outcome.Undefined u)) = None
came_in (ran.Last outcome.OutOfSteps) = Some came.OutOfSteps
came_in (ran.Before (outcome.Ended value)) = None
came_in (ran.Before (outcome.Trapped kind)) = Some came.TrappedBefore
came_in (ran.Before (outcome.Undefined u)) = None
came_in (ran.Before outcome.OutOfSteps) = Some came.OutOfSteps

-- the session still runs the same program
pub record RunsTheSame {H : Type 0} (m : HostModule H) (before after : State H) : Type 0 where
  pub linked : after.linked ≡ before.linked
  pub hosts : hosts_of m after.hosts ≡ hosts_of m before.hosts
  pub program : program_of m after ≡ program_of m before
  pub steps : after.steps ≡ before.steps

-- what its program comes to over these calls
abbrev pub run_of : {H : Type 0} → HostModule H → State H → List SymbolCall → CRun
run_of m s calls = c_run (program_of m s) calls s.steps []

-- a session without hosts stands behind these calls
pub record IsBehind {H : Type 0} (m : HostModule H) (s : State H) (calls : List SymbolCall) : Type 0 where
  pub no_hosts : s.hosts ≡ []
  pub none_asked : s.journal ≡ []
  pub told : List Event
  pub stands : Stands m s calls told
