-- What a call of a unit's function comes to (C11, 6.5.2.2 function calls), in any program, for any
-- functions that wait.
use Rattle.std.specs.Prelude.{ℕ, ◌≤◌, List, Option}
use Rattle.w2c_base.specs.declared.trap.TrapKind.{TrapKind}
use Rattle.c_tree.specs.Tree as tree
use Rattle.c_meaning.specs.State.{CValue, Machine, Frame, Trapped}
use Rattle.c_meaning.specs.Linking.{Program, definition_of}
use Rattle.c_meaning.specs.Step.{begin, give}
use Rattle.c_meaning.specs.Run.{Pending, Progress, Over, Stopped, over, go_on}
use Rattle.c_meaning.specs.Reaches.{Reaches}

-- how a call ends: it gives the machine back with a value or none, or it traps
pub data CallEnd : Type 0 where
  GivesBack : (machine : Machine) → (value : Option CValue) → CallEnd
  TrapsWith : (machine : Machine) → (kind : TrapKind) → CallEnd

-- the run when the function's first statement is to come. The function is the item with this number
-- of its unit
abbrev pub call_begun : Program → Pending → ℕ → ℕ → tree.Func → Machine → List CValue → List Frame → Progress
call_begun p pending unit item f m args below = go_on p pending (begin (definition_of (item, tree.Function f)) unit m args below)

-- the run when the call has ended
abbrev pub call_ended : Program → Pending → CallEnd → List Frame → Progress
call_ended p pending (GivesBack m value) below = go_on p pending (give m value below)
call_ended p pending (TrapsWith m kind) below = Over (over pending m (Stopped (Trapped kind)))

-- A call of the function ends in this way, within so many statements. It is not over before that:
-- so it is never undefined and never stuck.
pub record CallComesTo (most : ℕ) (f : tree.Func) (args : List CValue) (m : Machine) (end : CallEnd) : Type 0 where
  pub statements : ℕ
  pub few : statements ≤ most
  pub way : (p : Program) (pending : Pending) (unit item : ℕ) (below : List Frame)
      → Reaches p statements (call_begun p pending unit item f m args below) (call_ended p pending end below)

-- The same within so many statements, and not before so many others.
pub record CallComesBetween (least most : ℕ) (f : tree.Func) (args : List CValue) (m : Machine) (end : CallEnd) : Type 0 where
  pub statements : ℕ
  pub many : least ≤ statements
  pub few : statements ≤ most
  pub way : (p : Program) (pending : Pending) (unit item : ℕ) (below : List Frame)
      → Reaches p statements (call_begun p pending unit item f m args below) (call_ended p pending end below)
