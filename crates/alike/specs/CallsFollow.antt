-- When a run of C follows a call of a module's function, with both counts: for n steps the run takes n
-- statements at least, and 400 at most for each and some to spare. That C is undefined or stuck is no
-- case, and that the module is stuck is excluded.
use Rattle.std.specs.Prelude.{◌≡◌, ℕ, ◌+◌, ◌*◌, ◌≤◌, true, List, Option, Some}
use Rattle.std.specs.List.{AllByRecursion}
use Rattle.w2c_base.specs.declared.value.Value.{Value}
use Rattle.w2c_base.specs.declared.signature.FuncType.{FuncType}
use Rattle.w2c_base.specs.Values.{types_of, is_result, IsNumber}
use Rattle.w2c_base.specs.Run.{Trail}
use Rattle.wasm_meaning.specs.LinkedSet as link
use Rattle.wasm_meaning.specs.Store as store
use Rattle.wasm_meaning.specs.Execution as exec
use Rattle.c_meaning.specs.State as state
use Rattle.c_meaning.specs.Linking.{Program}
use Rattle.c_meaning.specs.Run.{Pending, Progress, Over, Stopped, over, IsGoing}
use Rattle.c_meaning.specs.Reaches.{Reaches}
use Rattle.alike.specs.Passing.{StandsFor, called, given}
use Rattle.alike.specs.Agree.{Agrees, AreReady, IsCallable}

-- statements that a call may take beyond its steps: its own two at each end, and those of wrappers
abbrev pub call_spare : ℕ
call_spare = 60

-- so many statements for n steps, of which some are left
pub record Paid (spare n left statements : ℕ) : Type 0 where
  pub least : n ≤ left + statements
  pub most : statements + 400 * left ≤ 400 * n + spare

-- ---- both runs at one place: what is shared agrees, and so many modules are ready

pub record Together (p : Program) (s : link.LinkedSet) (count depth : ℕ) (m : state.Machine) (made : store.Store)
    (trail : Trail) : Type 0 where
  pub agrees : Agrees p s m made trail
  pub ready : AreReady s count m made
  pub depth_is : m.depth ≡ depth

-- the run is over for one reason in both languages
abbrev pub SameStop : exec.Stop → state.Stop → Type 0
SameStop (exec.Trapped kind) other = other ≡ state.Trapped kind
SameStop exec.Asks other = other ≡ state.Asks
SameStop _ other = ⊥

pub record EndsAlike (p : Program) (s : link.LinkedSet) (pending : Pending) (spare : ℕ) (from : Progress) (n : ℕ) (why : exec.Stop)
    (made : store.Store) (trail : Trail) : Type 0 where
  pub machine : state.Machine
  pub reason : state.Stop
  pub same : SameStop why reason
  pub agrees : Agrees p s machine made trail
  pub statements : ℕ
  pub way : Reaches p statements from (Over (over pending machine (Stopped reason)))
  pub few : statements ≤ 400 * n + spare

-- the run goes on after as many statements
pub record GoesOn (p : Program) (from : Progress) (n : ℕ) : Type 0 where
  pub to : Progress
  pub goes : IsGoing to
  pub statements : ℕ
  pub way : Reaches p statements from to
  pub least : n ≤ statements

-- a stop that is no end
abbrev pub StopsAlike : Program → link.LinkedSet → Pending → ℕ → Progress → ℕ → exec.Stop → store.Store → Trail → Type 0
StopsAlike p s pending spare from n exec.OutOfSteps made trail = GoesOn p from n
StopsAlike p s pending spare from n exec.Stuck made trail = ⊥
StopsAlike p s pending spare from n why made trail = EndsAlike p s pending spare from n why made trail

-- ---- calls

-- the value goes to those who wait, at the depth at which the call was made
pub record ComesBack (p : Program) (s : link.LinkedSet) (count depth : ℕ) (pending : Pending) (below : List state.Frame) (ty : FuncType)
    (from : Progress) (n left : ℕ) (value : Option Value) (made : store.Store) (trail : Trail) : Type 0 where
  pub machine : state.Machine
  pub together : Together p s count depth machine made trail
  pub typed : is_result ty.result value ≡ true
  pub statements : ℕ
  pub way : Reaches p statements from (given p pending machine value below)
  pub paid : Paid call_spare n left statements

abbrev pub CallFollows : Program → link.LinkedSet → ℕ → ℕ → Pending → List state.Frame → FuncType → Progress → ℕ → exec.Called → Type 0
CallFollows p s count depth pending below ty from n (exec.Back left value made trail) =
    ComesBack p s count depth pending below ty from n left value made trail
CallFollows p s count depth pending below ty from n (exec.CallStops why made trail) =
    StopsAlike p s pending call_spare from n why made trail

-- Every call is followed, of any function of the first modules or of a host, through any function of C
-- that stands for it, from any machine that agrees, while so many more functions may become active.
abbrev pub CallsFollow : Program → link.LinkedSet → ℕ → ℕ → exec.Calls → Type 0
CallsFollow p s count room calls =
    (f : link.FuncAddress) (a : state.FuncAddress) (ty : FuncType) (args : List Value) (n depth : ℕ) (made : store.Store) (trail : Trail)
    (m : state.Machine) (pending : Pending) (below : List state.Frame)
    → link.func_type s f ≡ Some ty → IsCallable s count f → StandsFor p s f a
    → types_of args ≡ ty.params → AllByRecursion IsNumber args
    → Together p s count depth m made trail → depth + room ≡ 1024
    → CallFollows p s count depth pending below ty (called p pending a m args below) n (calls f args n made trail)
