-- One statement of the subset (C11, 6.5 expressions, 6.8 statements and blocks). The left operand
-- is evaluated first, arguments from left to right, the right side of `*p = e` before p, and a
-- pointer that is called is looked at after the arguments. Labels and declarations cost nothing.
use Rattle.std.specs.Prelude.{ℕ, ◌-◌, ◌%◌, ◌^◌, ◌==◌, ◌&&◌, Bool, true, false, if◌then◌else◌, List, [], ◌∷◌, ◌++◌, length, filter_map}
use Rattle.std.specs.Prelude.{bytes_eq, slice_get, is_some, Option, Some, None, option_map}
use Rattle.std.specs.Option.{option_or}
use Rattle.w2c_base.specs.declared.value.Value.{Value}
use Rattle.w2c_base.specs.declared.value.Value.TheVariants.{I32, I64}
use Rattle.w2c_base.specs.declared.trap.TrapKind.TheVariants.{HostTrap}
use Rattle.w2c_base.specs.declared.signature.FuncType.{FuncType}
use Rattle.w2c_base.specs.Values.{number_of, types_of, equal_types, is_result}
use Rattle.w2c_base.specs.Lookup.{if_found, named, with_named}
use Rattle.w2c_base.specs.Run.{Reply, Gave, HostTrapped, Ask, Event, asked}
use Rattle.c_tree.specs.declared.tree.CType.{CType}
use Rattle.c_tree.specs.declared.tree.CType.TheVariants.{Void}
use Rattle.c_tree.specs.declared.tree.Num.{Num}
use Rattle.c_tree.specs.declared.tree.Num.TheVariants.{N32, N64, Plain}
use Rattle.c_tree.specs.Tree as tree
pub use Rattle.c_tree.specs.Runtime.{depth_name}
use Rattle.c_meaning.specs.State.{Name, FuncAddress, UnitFunc, HostFunc, ObjectAddress, CValue, Number, Pointer, FuncPointer, Vars, Machine}
use Rattle.c_meaning.specs.State.{Running, Frame, State, Place, Stop, Trapped, Undefined, Asks, Stuck, Evaluated, Is, Bad, NoRule}
use Rattle.c_meaning.specs.State.{then_evaluate, found, of_one_type}
use Rattle.c_meaning.specs.Operators.{operate}
use Rattle.c_tree.specs.Runtime.{same_type, same_func_type}
use Rattle.c_meaning.specs.Linking.{Program, Definition, func_named, array_named, definition_at, host_type, func_type}
use Rattle.c_meaning.specs.Machine.{initial_of, of_type, with_depth, with_trail, var_in, with_var, is_object}
use Rattle.c_meaning.specs.Primitives.{Effect, Gives, Traps, IsUndefined, NoEffect, primitive}

-- what a statement comes to: the next state, the end of the function that was begun, or a stop
pub data Step : Type 0 where
  Next : (state : State) → Step
  Back : (machine : Machine) → (value : Option CValue) → Step
  Stops : (machine : Machine) → (why : Stop) → Step

-- expressions (6.5)
abbrev pub in_unit : Running → Name → ObjectAddress
in_unit r name = record { unit = r.unit; name = name }

-- what a name holds: w2c_depth, a parameter or local, or a variable of the unit
abbrev pub value_of : Machine → Running → Name → Option CValue
value_of m r name =
    if bytes_eq name depth_name then Some (Number (I32 m.depth))
    else option_or (named name r.vars) (var_in m (in_unit r name))

abbrev pub as_number : CValue → Evaluated Value
as_number (Number v) = Is v
as_number (Pointer to) = NoRule
as_number (FuncPointer to) = NoRule

abbrev pub as_object : CValue → Evaluated ObjectAddress
as_object (Pointer None) = Bad 4
as_object (Pointer (Some a)) = Is a
as_object (Number v) = NoRule
as_object (FuncPointer to) = NoRule

abbrev pub number_in : Option CValue → Evaluated Value
number_in v = then_evaluate (found v) as_number

abbrev pub constant : Num → Evaluated Value
constant (N32 n) = Is (I32 n)
constant (N64 n) = Is (I64 n)
constant (Plain n) = NoRule

abbrev pub element : List ℕ → ℕ → Evaluated Value
element bytes index = elim (slice_get bytes index) [ None ↦ Bad 3 | Some byte ↦ Is (I32 byte) ]

abbrev pub evaluate : Program → Machine → Running → tree.Expr → Evaluated Value
evaluate p m r (tree.Name name) = number_in (value_of m r name)
evaluate p m r (tree.At name index) =
    then_evaluate (evaluate p m r index) (λ i.
    then_evaluate (found (array_named p r.unit name)) (λ bytes. element bytes (number_of i)))
evaluate p m r (tree.Number number) = constant number
evaluate p m r (tree.To32 e) = then_evaluate (evaluate p m r e) (λ v. Is (I32 (number_of v % 2 ^ 32)))
evaluate p m r (tree.To64 e) = then_evaluate (evaluate p m r e) (λ v. Is (I64 (number_of v)))
evaluate p m r (tree.Star name) =
    then_evaluate (found (value_of m r name)) (λ v.
    then_evaluate (as_object v) (λ a. number_in (var_in m a)))
evaluate p m r (tree.Op op left right) =
    then_evaluate (evaluate p m r left) (λ x.
    then_evaluate (evaluate p m r right) (λ y. operate op x y))

-- an argument or a right side. A name alone may hold a pointer
abbrev pub evaluate_arg : Program → Machine → Running → tree.Arg → Evaluated CValue
evaluate_arg p m r (tree.Value (tree.Name name)) = found (value_of m r name)
evaluate_arg p m r (tree.Value e) = then_evaluate (evaluate p m r e) (λ v. Is (Number v))
evaluate_arg p m r (tree.Address name) = if is_object m (in_unit r name) then Is (Pointer (Some (in_unit r name))) else NoRule
evaluate_arg p m r (tree.OfFunction name) = then_evaluate (found (func_named p r.unit name)) (λ f. Is (FuncPointer (Some f)))

abbrev pub evaluate_args : Program → Machine → Running → List tree.Arg → Evaluated (List CValue)
evaluate_args p m r [] = Is []
evaluate_args p m r (a ∷ args) =
    then_evaluate (evaluate_arg p m r a) (λ v.
    then_evaluate (evaluate_args p m r args) (λ values. Is (v ∷ values)))

-- a statement's place: its number is that of the statements up to it
abbrev pub place_of : Running → List tree.Stmt → Place
place_of r rest = record { unit = r.unit; item = r.item; statement = length r.stmts - length rest }

abbrev pub with_value : {A : Type 0} → Machine → Place → Evaluated A → (A → Step) → Step
with_value m place (Is a) go = go a
with_value m place (Bad kind) go = Stops m (Undefined kind place)
with_value m place NoRule go = Stops m Stuck

-- the function with other statements to come, and with other variables
abbrev pub at_rest : Running → List tree.Stmt → Running
at_rest r rest = record { unit = r.unit; item = r.item; result = r.result; stmts = r.stmts; rest = rest; vars = r.vars }

abbrev pub with_vars : Running → Vars → Running
with_vars r vars = record { unit = r.unit; item = r.item; result = r.result; stmts = r.stmts; rest = r.rest; vars = vars }

abbrev pub next : Machine → Running → List Frame → Step
next m r below = Next (record { machine = m; running = r; below = below })

-- assignment (6.5.16) to w2c_depth, a parameter or local, or a variable of the unit
abbrev pub assign_depth : Machine → Running → CValue → List Frame → Step
assign_depth m r (Number (I32 n)) below = next (with_depth m n) r below
assign_depth m r _ below = Stops m Stuck

-- what is done with a value that goes where a value of its type is held
abbrev pub put_in : Machine → Option CValue → CValue → Step → Step
put_in m None v does = Stops m Stuck
put_in m (Some held) v does = if of_one_type held v then does else Stops m Stuck

abbrev pub assign : Machine → Running → Name → CValue → List Frame → Step
assign m r name v below =
    if bytes_eq name depth_name then assign_depth m r v below
    else (if is_some (named name r.vars)
    then put_in m (named name r.vars) v (next m (with_vars r (with_named name v r.vars)) below)
    else put_in m (var_in m (in_unit r name)) v (next (with_var m (in_unit r name) v) r below))

-- goto (6.8.6.1): the statements behind a label
abbrev pub after_label : Name → List tree.Stmt → Option (List tree.Stmt)
after_label name [] = None
after_label name (tree.Label x ∷ stmts) = if bytes_eq x name then Some stmts else after_label name stmts
after_label name (_ ∷ stmts) = after_label name stmts

abbrev pub jump : Machine → Running → Name → List Frame → Step
jump m r name below = elim (after_label name r.stmts) [ None ↦ Stops m Stuck | Some rest ↦ next m (at_rest r rest) below ]

-- the value goes to the name that waits for it (6.8.6.4): at a return, and at the end of a primitive's or a host's call
abbrev pub give : Machine → Option CValue → List Frame → Step
give m value [] = Back m value
give m value (f ∷ below) = elim f.target [
  | None ↦ next m f.running below
  | Some name ↦ elim value [ None ↦ Stops m Stuck | Some v ↦ assign m f.running name v below ]
]

-- return (6.8.6.4): with a value of the function's type, or with none where it is void
abbrev pub is_returned : CType → Option CValue → Bool
is_returned ty None = same_type ty Void
is_returned ty (Some v) = of_type ty v

abbrev pub returned : Machine → Running → Option CValue → List Frame → Step
returned m r value below = if is_returned r.result value then give m value below else Stops m Stuck

-- function calls (6.5.2.2): parameters are bound in order, then locals are initialised
abbrev pub param_names : List tree.Param → List Name
param_names params = filter_map (λ q. q.1) params

abbrev pub bind : List Name → List CValue → Option Vars
bind [] [] = Some []
bind (name ∷ names) (v ∷ values) = option_map (λ vars. (name, v) ∷ vars) (bind names values)
bind _ _ = None

-- the types of the parameters that have names, and values of these types, one for each
abbrev pub param_types : List tree.Param → List CType
param_types params = filter_map (λ q. option_map (λ name. q.0) q.1) params

abbrev pub are_of_types : List CType → List CValue → Bool
are_of_types [] [] = true
are_of_types (ty ∷ types) (v ∷ values) = of_type ty v && are_of_types types values
are_of_types _ _ = false

abbrev pub locals_of : List tree.Local → Option Vars
locals_of [] = Some []
locals_of (l ∷ locals) = if_found (initial_of l.0 l.2) (λ v. option_map (λ vars. (l.1, v) ∷ vars) (locals_of locals))

abbrev pub first_vars : Definition → List CValue → Option Vars
first_vars d args =
    if are_of_types (param_types d.func.params) args
    then if_found (bind (param_names d.func.params) args) (λ params. option_map (λ locals. params ++ locals) (locals_of d.body.locals))
    else None

abbrev pub begin : Option Definition → ℕ → Machine → List CValue → List Frame → Step
begin None u m args below = Stops m Stuck
begin (Some d) u m args below = elim (first_vars d args) [
  | None ↦ Stops m Stuck
  | Some vars ↦ next m (record {
    unit = u;
    item = d.item;
    result = d.func.result;
    stmts = d.body.stmts;
    rest = d.body.stmts;
    vars = vars;
  }) below
]

abbrev pub numbers : List CValue → Option (List Value)
numbers [] = Some []
numbers (Number v ∷ values) = option_map (λ others. v ∷ others) (numbers values)
numbers (Pointer to ∷ values) = None
numbers (FuncPointer to ∷ values) = None

-- the reply of a host that is asked, behind what happened before. Where none is left, or it is no
-- number of the function's type, the run stops at this ask
abbrev pub replied : FuncType → List Reply → List Event → Ask → Machine → List Frame → Step
replied ty [] before a m below = Stops (with_trail m (asked before a None [])) Asks
replied ty (HostTrapped ∷ replies) before a m below =
    Stops (with_trail m (asked before a (Some HostTrapped) replies)) (Trapped HostTrap)
replied ty (Gave result ∷ replies) before a m below =
    if is_result ty.result result
    then give (with_trail m (asked before a (Some (Gave result)) replies)) (option_map Number result) below
    else Stops (with_trail m (asked before a None replies)) Asks

-- the arguments are numbers of the parameters' types
abbrev pub ask : Program → ℕ → ℕ → Machine → List CValue → List Frame → Step
ask p h f m args below = elim (host_type p h f) [
  | None ↦ Stops m Stuck
  | Some ty ↦ elim (numbers args) [
    | None ↦ Stops m Stuck
    | Some values ↦
        if equal_types ty.params (types_of values)
        then replied ty m.trail.replies m.trail.events (record { host = h; function = f; args = values }) m below
        else Stops m Stuck
  ]
]

abbrev pub call : Program → FuncAddress → Machine → List CValue → List Frame → Step
call p (UnitFunc u name) m args below = begin (definition_at p u name) u m args below
call p (HostFunc h f) m args below = ask p h f m args below

abbrev pub take_effect : Effect → Place → Machine → List Frame → Step
take_effect (Gives after value) place m below = give after value below
take_effect (Traps kind) place m below = Stops m (Trapped kind)
take_effect (IsUndefined kind) place m below = Stops m (Undefined kind place)
take_effect NoEffect place m below = Stops m Stuck

-- a primitive, else a function that the name stands for
abbrev pub call_named : Program → ℕ → Name → Place → Machine → List CValue → List Frame → Step
call_named p u name place m args below = elim (primitive name) [
  | Some does ↦ take_effect (does args m) place m below
  | None ↦ elim (func_named p u name) [ None ↦ Stops m Stuck | Some f ↦ call p f m args below ]
]

-- a function that a name points to, of the type that is written
abbrev pub call_through : Program → Option CValue → tree.FuncType → Place → Machine → List CValue → List Frame → Step
call_through p (Some (FuncPointer None)) want place m args below = Stops m (Undefined 4 place)
call_through p (Some (FuncPointer (Some f))) want place m args below = elim (func_type p f) [
  | None ↦ Stops m Stuck
  | Some ty ↦ if same_func_type ty want then call p f m args below else Stops m (Undefined 5 place)
]
call_through p _ want place m args below = Stops m Stuck

abbrev pub call_callee : Program → tree.Callee → Place → Machine → Running → List CValue → List Frame → Step
call_callee p (tree.Called name) place m r args below = call_named p r.unit name place m args below
call_callee p (tree.Through want name) place m r args below = call_through p (value_of m r name) want place m args below

-- switch (6.8.4.2): the label of the case that the value is
abbrev pub equal_number : Value → Num → Bool
equal_number (I32 x) (N32 n) = x == n
equal_number (I64 x) (N64 n) = x == n
equal_number _ _ = false

abbrev pub label_of : Value → List tree.Case → Name → Name
label_of v [] default = default
label_of v (c ∷ cases) default = if equal_number v c.0 then c.1 else label_of v cases default

-- the statements to come, the first of them now
abbrev pub act : Program → Machine → Running → List tree.Stmt → List Frame → Step
act p m r [] below = Stops m Stuck
act p m r (tree.Label name ∷ rest) below = act p m r rest below
act p m r (tree.Null ∷ rest) below = next m (at_rest r rest) below
act p m r (tree.Set name a ∷ rest) below =
    with_value m (place_of r rest) (evaluate_arg p m r a) (λ v. assign m (at_rest r rest) name v below)
act p m r (tree.SetStar name e ∷ rest) below =
    with_value m (place_of r rest) (evaluate p m r e) (λ v.
    with_value m (place_of r rest) (then_evaluate (found (value_of m r name)) as_object) (λ a.
    put_in m (var_in m a) (Number v) (next (with_var m a (Number v)) (at_rest r rest) below)))
act p m r (tree.Call target callee args ∷ rest) below =
    with_value m (place_of r rest) (evaluate_args p m r args) (λ values.
    call_callee p callee (place_of r rest) m r values (record { target = target; running = at_rest r rest } ∷ below))
act p m r (tree.Goto name ∷ rest) below = jump m r name below
act p m r (tree.If op left right name ∷ rest) below =
    with_value m (place_of r rest) (evaluate p m r (tree.Op op left right)) (λ v.
    if number_of v == 0 then next m (at_rest r rest) below else jump m r name below)
act p m r (tree.Switch e cases default ∷ rest) below =
    with_value m (place_of r rest) (evaluate p m r e) (λ v. jump m r (label_of v cases default) below)
act p m r (tree.ReturnNone ∷ rest) below = returned m r None below
act p m r (tree.Return a ∷ rest) below =
    with_value m (place_of r rest) (evaluate_arg p m r a) (λ v. returned m r (Some v) below)

abbrev pub c_step : Program → State → Step
c_step p s = act p s.machine s.running s.running.rest s.below
