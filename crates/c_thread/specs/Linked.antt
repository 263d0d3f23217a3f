-- Functions of linked units that run, as states of the meaning of C: units, items and objects stand
-- by number, a position is the number of a statement, and variables are values in the order in which
-- parameters and locals are declared.
use Rattle.std.specs.Prelude.{◌≡◌, ℕ, ◌-◌, List, [], ◌∷◌, ◌++◌, map, zip, drop, reverse, slice_get, if◌then◌else◌, Option, Some, None}
use Rattle.std.specs.Prelude.{option_map}
use Rattle.w2c_base.specs.declared.value.Value.{Value}
use Rattle.w2c_base.specs.Lookup.{if_found, named}
use Rattle.w2c_base.specs.Values.{equal_types, types_of}
use Rattle.w2c_base.specs.Run.{Trail}
use Rattle.c_tree.specs.Tree as tree
use Rattle.c_tree.specs.View.{unit_of}
use Rattle.c_meaning.specs.State.{Name, FuncAddress, ObjectAddress, CValue, Number, then_evaluate, found, Vars, Machine, Running}
use Rattle.c_meaning.specs.State.{Frame as Waiting, State, Place, Trapped, Undefined, Stuck}
use Rattle.c_meaning.specs.Linking.{Program, array_named, definition_at, func_named, host_type}
use Rattle.c_meaning.specs.Machine.{var_in, with_var}
use Rattle.c_meaning.specs.Step.{Step, Next, Back, Stops, as_object, call, call_named, call_through, in_unit, next, put_in, replied}
use Rattle.c_meaning.specs.Step.{with_value}
use Rattle.c_objects.specs.declared.held.Held.{Held}
use Rattle.c_objects.specs.Stores.{machine_of}
use Rattle.c_objects.specs.Views.{Naming, UnitNames, func_of, item_name, value_of}
use Rattle.c_thread.specs.declared.control.LinkedUnit.{LinkedUnit}
use Rattle.c_machine.specs.declared.evaluation.Fault.{Fault}
use Rattle.c_machine.specs.declared.evaluation.Fault.TheVariants as fault
use Rattle.c_thread.specs.declared.linked.HostCall.{HostCall}
use Rattle.c_thread.specs.declared.linked.LinkedFrame.{LinkedFrame}
use Rattle.c_thread.specs.declared.linked.LinkedThread.{LinkedThread}
use Rattle.c_thread.specs.declared.linked.LinkedStep.{LinkedStep}
use Rattle.c_thread.specs.declared.linked.LinkedStep.TheVariants as step
use Rattle.c_thread.specs.declared.scope.ObjectTables.{ObjectTables}
use Rattle.c_machine.specs.Names.{Finds, number_in}
use Rattle.c_thread.specs.Sights.{func_at, item_bytes}
use Rattle.c_machine.specs.Tables.{IsTables}
use Rattle.c_machine.specs.Threads.{definition_in, result_at, stmts_at, names_at, target_of}

-- the items of a unit
abbrev pub items_at : Program → ℕ → List tree.Item
items_at p u = elim (slice_get p.units u) [ None ↦ [] | Some items ↦ items ]

abbrev pub held_vars : Naming → List Name → List Held → Vars
held_vars names locals values = zip locals (map (value_of names) values)

-- a function that runs
abbrev pub running_in : Naming → Program → LinkedFrame → Running
running_in names p f = record {
  unit = f.unit;
  item = f.item;
  result = result_at (items_at p f.unit) f.item;
  stmts = stmts_at (items_at p f.unit) f.item;
  rest = drop f.at (stmts_at (items_at p f.unit) f.item);
  vars = held_vars names (names_at (items_at p f.unit) f.item) f.values.items;
}

-- a function that waits stands behind its call
abbrev pub waiting_in : Naming → Program → LinkedFrame → Waiting
waiting_in names p f = record {
  target = target_of (slice_get (stmts_at (items_at p f.unit) f.item) (f.at - 1));
  running = running_in names p f;
}

abbrev pub below_in : Naming → Program → List LinkedFrame → List Waiting
below_in names p frames = map (waiting_in names p) (reverse frames)

abbrev pub machine_in : Naming → Trail → LinkedThread → Machine
machine_in names trail t = machine_of names t.depth trail t.store.units.items

abbrev pub state_in : Naming → Program → Trail → LinkedThread → State
state_in names p trail t = record {
  machine = machine_in names trail t;
  running = running_in names p t.top;
  below = below_in names p t.below.items;
}

-- the statement in front of the position
abbrev pub place_in : LinkedFrame → Place
place_in f = record { unit = f.unit; item = f.item; statement = f.at }

-- a host is asked, where it has the function and the arguments are of its parameters' types
abbrev pub host_asked : Program → HostCall → Machine → List Waiting → Step
host_asked p c m below = elim (host_type p c.host c.function) [
  | None ↦ Stops m Stuck
  | Some ty ↦
      if equal_types ty.params (types_of c.args.items)
      then replied ty m.trail.replies m.trail.events
      (record { host = c.host; function = c.function; args = c.args.items }) m below
      else Stops m Stuck
]

-- the call of a function, where there is one
abbrev pub called : Program → Option FuncAddress → Machine → List CValue → List Waiting → Step
called p f m args below = elim f [ None ↦ Stops m Stuck | Some f ↦ call p f m args below ]

-- what is called, with what the name that is called through holds
abbrev pub resolved : Program → ℕ → tree.Callee → Option CValue → Place → Machine → List CValue → List Waiting → Step
resolved p u (tree.Called name) v place m args below = call_named p u name place m args below
resolved p u (tree.Through want name) v place m args below = call_through p v want place m args below

-- what a statement came to
abbrev pub step_in : Naming → Program → Trail → LinkedStep → LinkedThread → Step
step_in names p trail step.Next t = Next (state_in names p trail t)
step_in names p trail (step.Back value) t = Back (machine_in names trail t) (option_map (value_of names) value)
step_in names p trail (step.Trapped kind) t = Stops (machine_in names trail t) (Trapped kind)
step_in names p trail (step.Undefined kind) t = Stops (machine_in names trail t) (Undefined kind (place_in t.top))
step_in names p trail step.Stuck t = Stops (machine_in names trail t) Stuck
step_in names p trail (step.Asks call) t =
    host_asked p call (machine_in names trail t) (waiting_in names p t.top ∷ below_in names p t.below.items)

-- a function that was begun, or none
abbrev pub begun_in : Naming → Program → Machine → Option LinkedFrame → List Waiting → Step
begun_in names p m None below = Stops m Stuck
begun_in names p m (Some f) below = next m (running_in names p f) below

-- what the tables of a unit find
pub record AreObjectTables (names : Naming) (p : Program) (u : ℕ) (t : ObjectTables) : Type 0 where
  pub unit : UnitNames
  pub unit_is : slice_get names u ≡ Some unit
  pub vars : Finds t.vars (λ q. number_in q unit.vars)
  pub memories : Finds t.memories (λ q. number_in q unit.memories)
  pub tables : Finds t.tables (λ q. number_in q unit.tables)
  pub arrays : (q : Name) → array_named p u q ≡ if_found (named q t.arrays) (λ i. if_found (slice_get (items_at p u) i) item_bytes)
  pub functions : (q : Name) → func_named p u q ≡ option_map (func_of names) (func_at t q)

-- what a fault of an evaluation makes of a statement
abbrev pub failed : Machine → Place → Fault → Step
failed m place (fault.Undefined kind) = Stops m (Undefined kind place)
failed m place fault.NoRule = Stops m Stuck

-- a value goes to a variable that holds one of its type
abbrev pub put_at : Machine → Running → ObjectAddress → CValue → List Waiting → Step
put_at m r a v below = put_in m (var_in m a) v (next (with_var m a v) r below)

-- assignment to a variable of the unit
abbrev pub assigned_in_unit : Machine → Running → Name → CValue → List Waiting → Step
assigned_in_unit m r name v below = put_at m r (in_unit r name) v below

-- assignment to what a pointer points to
abbrev pub assigned_to : Machine → Running → Place → Option CValue → Value → List Waiting → Step
assigned_to m r place pointer v below =
    with_value m place (then_evaluate (found pointer) as_object) (λ a. put_at m r a (Number v) below)

-- each unit has the tables of its functions
abbrev pub HaveUnitTables : List LinkedUnit → Type 0
HaveUnitTables units = (u : ℕ) (l : LinkedUnit) → slice_get units u ≡ Some l → IsTables l.functions (unit_of l.items.value)

-- the units of a program, with the tables of their objects
pub record IsLinked (names : Naming) (p : Program) (units : List LinkedUnit) : Type 0 where
  pub units_are : map (λ (l : LinkedUnit). unit_of l.items.value) units ≡ p.units
  pub objects : (u : ℕ) (l : LinkedUnit) → slice_get units u ≡ Some l → AreObjectTables names p u l.objects
  pub definitions : (u i : ℕ) → definition_at p u (item_name names u i) ≡ definition_in (items_at p u) i
