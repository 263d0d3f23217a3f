-- The run of linked units: the init functions in order, then calls of symbols, with at most so many
-- statements in all (C11, 5.1.2.3 program execution, 6.8).
use Rattle.std.specs.Prelude.{ℕ, zero, suc, List, [], ◌∷◌, ◌++◌, map, Option, Some, None, ⊤}
use Rattle.w2c_base.specs.declared.value.Value.{Value}
use Rattle.w2c_base.specs.Lookup.{numbered}
use Rattle.w2c_base.specs.Run.{Reply, Event, Phase, Init, Call, call_ended}
use Rattle.c_meaning.specs.State.{FuncAddress, CValue, Number, Objects, Machine, State, Stop, Stuck}
use Rattle.c_meaning.specs.Linking.{Program, SymbolCall, init_functions, called_func}
use Rattle.c_meaning.specs.Machine.{fresh, with_trail}
use Rattle.c_meaning.specs.Step.{Step, Next, Back, Stops, call, c_step}

pub data Outcome : Type 0 where
  Ended : Outcome
  Stopped : (why : Stop) → Outcome
  OutOfSteps : Outcome

-- how far a run came, what happened in it, in order, and the objects
pub record CRun : Type 0 where
  pub phase : Phase
  pub events : List Event
  pub units : List Objects
  pub outcome : Outcome

-- what is begun in turn: an init function or a listed call, or nothing where the symbol is none
pub record Entry : Type 0 where
  pub phase : Phase
  pub func : Option FuncAddress
  pub args : List Value

abbrev pub entries_of : Program → List SymbolCall → List Entry
entries_of p calls =
    map (λ f. record { phase = Init f.0; func = Some f.1; args = [] }) (numbered (init_functions p))
    ++ map (λ c. record { phase = Call c.0; func = called_func p c.1; args = c.1.args }) (numbered calls)

-- the phase that runs, and the entries behind it
pub record Pending : Type 0 where
  pub phase : Phase
  pub entries : List Entry

-- a run on its way, or over
pub data Progress : Type 0 where
  Going : (pending : Pending) → (state : State) → Progress
  Over : (run : CRun) → Progress

abbrev pub over : Pending → Machine → Outcome → CRun
over pending m outcome = record {
  phase = pending.phase;
  events = m.trail.events;
  units = m.units;
  outcome = outcome;
}

abbrev pub begun : Pending → Step → Progress
begun pending (Next s) = Going pending s
begun pending (Back m value) = Over (over pending m (Stopped Stuck))
begun pending (Stops m why) = Over (over pending m (Stopped why))

-- the next entry is begun, which costs nothing
abbrev pub begin_entry : Program → Machine → Phase → List Entry → Progress
begin_entry p m last [] = Over (over (record { phase = last; entries = [] }) m Ended)
begin_entry p m last (e ∷ entries) =
    let pending : Pending = record { phase = e.phase; entries = entries } in
    elim e.func [ None ↦ Over (over pending m (Stopped Stuck)) | Some f ↦ begun pending (call p f m (map Number e.args) []) ]

-- a listed call's end is told
abbrev pub told_end : Machine → Option Value → Machine
told_end m value = with_trail m (call_ended m.trail value)

-- an entry has come back: an init function without a value, a call with a number or none
abbrev pub came_back : Program → Pending → Machine → Phase → Option CValue → Progress
came_back p pending m (Init k) None = begin_entry p m (Init k) pending.entries
came_back p pending m (Call k) None = begin_entry p (told_end m None) (Call k) pending.entries
came_back p pending m (Call k) (Some (Number v)) = begin_entry p (told_end m (Some v)) (Call k) pending.entries
came_back p pending m _ (Some _) = Over (over pending m (Stopped Stuck))

abbrev pub go_on : Program → Pending → Step → Progress
go_on p pending (Next s) = Going pending s
go_on p pending (Back m value) = came_back p pending m pending.phase value
go_on p pending (Stops m why) = Over (over pending m (Stopped why))

-- after so many statements
abbrev pub after : Program → ℕ → Progress → Progress
after p zero progress = progress
after p (suc n) (Over run) = Over run
after p (suc n) (Going pending s) = after p n (go_on p pending (c_step p s))

-- on its way
abbrev pub IsGoing : Progress → Type 0
IsGoing (Going pending s) = ⊤
IsGoing (Over run) = ⊥

-- a run that is still on its way is out of steps
abbrev pub run_of : Progress → CRun
run_of (Over run) = run
run_of (Going pending s) = over pending s.machine OutOfSteps

abbrev pub c_start : Program → List SymbolCall → List Reply → Progress
c_start p calls replies = begin_entry p (fresh p replies) (Init 0) (entries_of p calls)

-- the run of a program with calls, at most m statements, and these replies of the hosts
abbrev pub c_run : Program → List SymbolCall → ℕ → List Reply → CRun
c_run p calls m replies = run_of (after p m (c_start p calls replies))
