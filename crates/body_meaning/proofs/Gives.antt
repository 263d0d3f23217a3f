-- What a plain instruction owes, and the two statements that give a value: an assignment to the slot on top, and a
-- call of a helper whose value goes there.
use Rattle.body_meaning.proofs.Common.{◌≡◌, ℕ, zero, suc, ◌^◌, ◌<◌, ◌≤◌, true, false, List, [], ◌∷◌, ◌++◌, length, is_some, Some, Option}
use Rattle.body_meaning.proofs.Common.{bytes_eq, sym, refl, ap, ◌∙◌, subst, arith, named, with_named, IsNumber, bits, type_of, types_of}
use Rattle.body_meaning.proofs.Common.{value, ValType, Value, Stack, Answer, AnswerFits, Gives, Traps, put_where_held, step, Program}
use Rattle.body_meaning.proofs.Common.{Reaches, Going, Over, Pending, Progress, go_on, Evaluated, Is, found, then_evaluate, Next, Step}
use Rattle.body_meaning.proofs.Common.{assign, at_rest, c_step, depth_name, evaluate, evaluate_arg, evaluate_args, next, number_in}
use Rattle.body_meaning.proofs.Common.{value_of, with_vars, statement_comes_between, statement_comes_to, CallComesBetween, CallComesTo}
use Rattle.body_meaning.proofs.Common.{CallEnd, call_ended, helper_of, ComesBetween, ComesWithin, Helper, HoldsNumber, Arrives, EndsAlike}
use Rattle.body_meaning.proofs.Common.{Follows, Site, StandsAt, Target, at, labelled, state_at, slot, call_helper, operand, set_slot}
use Rattle.body_meaning.proofs.Common.{Defines, type_of-value, Stopped, over, Spot}
use Rattle.c_tree.specs.Tree as tree
use Rattle.wasm_meaning.specs.Store as store
use Rattle.wasm_meaning.specs.Execution as exec
use Rattle.c_meaning.specs.State as state
use Rattle.c_prelude.specs.Operators.{number, answered}
use Rattle.body_meaning.proofs.Names.{slot_is_no_depth}
use Rattle.body_meaning.proofs.Slots.{SlotIsSet}
use Rattle.body_meaning.proofs.Before.{arrives_by, ends_by, spends}
use Rattle.body_meaning.proofs.Operands.{value_number}
use Rattle.body_meaning.proofs.Vars.{height, Takes, number_taken}
use Rattle.c_prelude.specs.Statements.{Calls}

-- ---- what an instruction without control owes, once its step is paid

abbrev pub Does : Site → List Value → List tree.Stmt → Stack → Progress → ℕ → store.State → exec.Done → Type 0
Does g base rest outs from left before (exec.Leaves stack now) =
    (types_of stack ≡ outs) × (names : List state.Name) × Arrives g 0 (labelled names rest) from (suc left) left (stack ++ base) now
Does g base rest outs from left before (exec.Faults kind) = EndsAlike g.program g.linked g.pending 0 from (suc left) (exec.Trapped kind)
    before.store before.trail
Does g base rest outs from left before exec.NoRule = ⊥

did_follows : (g : Site) (targets : List Target) (exit : Target) (base : List Value) (rest : List tree.Stmt) (outs : Stack)
    (from : Progress) (left : ℕ) (before : store.State) (done : exec.Done)
    → Does g base rest outs from left before done → Follows g 0 targets exit base rest outs from (suc left) (exec.did left before done)
did_follows g targets exit base rest outs from left before exec.NoRule does = absurd does
did_follows g targets exit base rest outs from left before _ does = does

-- where an instruction stands
abbrev pub Owes : Site → Spot → List tree.Stmt → ℕ → exec.Done → Type 0
Owes g s code left done = Does g s.base s.rest s.outs (at g s.machine (code ++ s.rest) s.vars) left s.now done

-- an instruction that costs a step
pub owes : (g : Site) (s : Spot) (exit : Target) (n : ℕ) (stmts : List tree.Stmt) {done comes : exec.Done} → done ≡ comes
    → ((left : ℕ) → Does g s.base s.rest s.outs (at g s.machine stmts s.vars) left s.now comes)
    → Follows g 0 s.targets exit s.base s.rest s.outs (at g s.machine stmts s.vars) n
    (exec.spend n s.now (λ left. exec.did left s.now done))
owes g s exit n stmts {comes} e does =
    rw e (spends g 0 s.targets exit s.base stmts s.rest s.outs s.machine s.vars n s.now (λ left. exec.did left s.now comes)
    (λ left. did_follows g s.targets exit s.base s.rest s.outs (at g s.machine stmts s.vars) left s.now comes (does left)))

-- what is emitted and done as they compute
pub plain_follows : (g : Site) (s : Spot) (exit : Target) (n : ℕ) {emitted code : List tree.Stmt} {done comes : exec.Done}
    → emitted ≡ code → done ≡ comes → ((left : ℕ) → Owes g s code left comes)
    → Follows g 0 s.targets exit s.base s.rest s.outs (at g s.machine (emitted ++ s.rest) s.vars) n
    (exec.spend n s.now (λ left. exec.did left s.now done))
plain_follows g s exit n {code} e d does = rw e (owes g s exit n (code ++ s.rest) d does)

-- ---- evaluation in a function that runs

abbrev pub running : Site → List tree.Stmt → state.Vars → state.Running
running g rest vars = (state_at g (record { depth = 0; units = []; trail = record { replies = []; events = [] } }) rest vars).running

pub value_of_variable : (m : state.Machine) (r : state.Running) (name : List ℕ) {v : state.CValue} → bytes_eq name depth_name ≡ false
    → named name r.vars ≡ Some v → value_of m r name ≡ Some v
value_of_variable m r name no_depth is = rw (no_depth, is) refl

pub evaluate-variable : (p : Program) (m : state.Machine) (r : state.Running) (name : List ℕ) {v : Value} → bytes_eq name depth_name ≡ false
    → named name r.vars ≡ Some (state.Number v) → evaluate p m r (tree.Name name) ≡ Is v
evaluate-variable p m r name no_depth is = ap number_in (value_of_variable m r name no_depth is)

pub slot_value : (m : state.Machine) (r : state.Running) (t : ValType) (height : ℕ) {v : state.CValue}
    → named (slot t height) r.vars ≡ Some v → value_of m r (slot t height) ≡ Some v
slot_value m r t height is = value_of_variable m r (slot t height) (slot_is_no_depth t height) is

pub operand_is : (p : Program) (m : state.Machine) (r : state.Running) (t : ValType) (height : ℕ) {v : state.CValue}
    → named (slot t height) r.vars ≡ Some v → evaluate_arg p m r (tree.Value (operand t height)) ≡ Is v
operand_is p m r t height is = ap state.found (slot_value m r t height is)

found_number : (o : Option state.CValue) {v : Value} → number_in o ≡ Is v → found o ≡ Is (state.Number v)
found_number (Some (state.Number w)) e = ap (λ (x : Evaluated Value). then_evaluate x (λ u. Is (state.Number u))) e
found_number _ e = absurd cc

-- what an expression with a number is as a right side or an argument
pub number_arg : (p : Program) (m : state.Machine) (r : state.Running) (e : tree.Expr) {v : Value} → evaluate p m r e ≡ Is v
    → evaluate_arg p m r (tree.Value e) ≡ Is (state.Number v)
number_arg p m r (tree.Name name) is = found_number (value_of m r name) is
number_arg p m r e is = ap (λ (x : Evaluated Value). then_evaluate x (λ u. Is (state.Number u))) is

-- ---- one statement

pub one_step : (p : Program) (pending : Pending) (s t : state.State) → c_step p s ≡ Next t → Reaches p 1 (Going pending s) (Going pending t)
one_step p pending s t is = subst (λ (x : Step). Reaches p 1 (Going pending s) (go_on p pending x)) is (step p pending s)

-- a variable of the function is assigned a value of the type that it holds
pub assign_variable : (m : state.Machine) (r : state.Running) (name : List ℕ) (v : state.CValue) (below : List state.Frame)
    → bytes_eq name depth_name ≡ false → Takes (named name r.vars) v
    → assign m r name v below ≡ next m (with_vars r (with_named name v r.vars)) below
assign_variable m r name v below no_depth takes =
    let there : is_some (named name r.vars) ≡ true = ap is_some takes.1 in
    rw (no_depth, there) (put_where_held m _ takes.0 v _ takes.1 takes.2)

-- so is a slot
pub assign_slot : (m : state.Machine) (r : state.Running) (t : ValType) (height : ℕ) (v : Value) (below : List state.Frame)
    → HoldsNumber t (named (slot t height) r.vars) → type_of v ≡ t → assign m r (slot t height) (state.Number v) below
    ≡ next m (with_vars r (with_named (slot t height) (state.Number v) r.vars)) below
assign_slot m r t height v below holds typed = assign_variable m r _ _ below (slot_is_no_depth t height) (number_taken t _ v holds typed)

-- a variable is set to what an expression gives
pub arg_reaches : (g : Site) (m : state.Machine) (rest : List tree.Stmt) (vars : state.Vars) (name : List ℕ) (e : tree.Expr)
    {v : state.CValue} → bytes_eq name depth_name ≡ false → Takes (named name vars) v
    → evaluate_arg g.program m (running g (tree.Set name (tree.Value e) ∷ rest) vars) (tree.Value e) ≡ Is v
    → Reaches g.program 1 (at g m (tree.Set name (tree.Value e) ∷ rest) vars) (at g m rest (with_named name v vars))
arg_reaches g m rest vars name e {v} no_depth there is =
    let stmts : List tree.Stmt = tree.Set name (tree.Value e) ∷ rest in
    let r : state.Running = running g stmts vars in
    one_step g.program g.pending (state_at g m stmts vars) (state_at g m rest (with_named name v vars)) (
    rw is (assign_variable m (at_rest r rest) name v g.below no_depth there)
    )

pub set_reaches : (g : Site) (m : state.Machine) (rest : List tree.Stmt) (vars : state.Vars) (name : List ℕ) (e : tree.Expr) {v : Value}
    → bytes_eq name depth_name ≡ false → Takes (named name vars) (state.Number v)
    → evaluate g.program m (running g (tree.Set name (tree.Value e) ∷ rest) vars) e ≡ Is v
    → Reaches g.program 1 (at g m (tree.Set name (tree.Value e) ∷ rest) vars) (at g m rest (with_named name (state.Number v) vars))
set_reaches g m rest vars name e no_depth there is =
    arg_reaches g m rest vars name e no_depth there (number_arg g.program m (running g (tree.Set name (tree.Value e) ∷ rest) vars) e is)

-- ---- a value on top of operands

-- an instruction leaves a value of this type on these operands, above those of the blocks outside
pub record Place (g : Site) (s : Spot) (under : List Value) (u : ValType) : Type 0 where
  pub typed : s.outs ≡ u ∷ types_of under
  pub there : g.slots u (height (under ++ s.base)) ≡ true
  pub set : SlotIsSet g
  pub stands : StandsAt g (under ++ s.base) s.now s.machine s.vars

-- A value is on top of what lies under it, in a machine and a store that may have changed; the run came there in 1 to 400
-- statements, or to labels in front.
pub leaves_value : {g : Site} {s : Spot} {under : List Value} {u : ValType} → Place g s under u
    → {now : store.State} {m : state.Machine} → StandsAt g (under ++ s.base) now m s.vars → (v : Value) → type_of v ≡ u → IsNumber v
    → {from : Progress} (names : List state.Name) (left : ℕ) {statements : ℕ} → 1 ≤ statements → statements ≤ 400
    → Reaches g.program statements from (at g m (labelled names s.rest)
    (with_named (slot u (height (under ++ s.base))) (state.Number v) s.vars))
    → Does g s.base s.rest s.outs from left s.now (exec.Leaves (v ∷ under) now)
leaves_value {g} {s} {under} place {now} {m} stood v is number {from} names left {statements} least most way = (
  ap (λ (t : ValType). t ∷ types_of under) is ∙ sym place.typed,
  names,
  arrives_by {m = m} {vars = with_named (slot (type_of v) (height (under ++ s.base))) (state.Number v) s.vars} (record {
    together = stood.together;
    variables = place.set v (under ++ s.base) now.locals s.vars (ap (λ t. g.slots t (height (under ++ s.base))) is ∙ place.there) number
        stood.variables;
    local_types = stood.local_types;
  }) (subst (λ t. Reaches g.program statements from
      (at g m (labelled names s.rest) (with_named (slot t (height (under ++ s.base))) (state.Number v) s.vars))) (sym is) way)
      (record { least = omega (arith, least); most = omega (arith, most) }),
)

-- no value
pub leaves_none : {g : Site} (s : Spot) (under : List Value) → s.outs ≡ types_of under → {now : store.State} {m : state.Machine}
    → StandsAt g (under ++ s.base) now m s.vars → {from : Progress} (left : ℕ) {statements : ℕ} → 1 ≤ statements → statements ≤ 400
    → Reaches g.program statements from (at g m s.rest s.vars) → Does g s.base s.rest s.outs from left s.now (exec.Leaves under now)
leaves_none s under typed stood left least most way =
    (sym typed, [], arrives_by stood way (record { least = omega (arith, least); most = omega (arith, most) }))

-- an assignment to the slot on top
pub sets : {g : Site} {s : Spot} {under : List Value} {u : ValType} → Place g s under u → (n : ℕ) → n < 2 ^ bits u → (left : ℕ)
    (e : tree.Expr) → evaluate g.program s.machine (running g (set_slot u (height (under ++ s.base)) e ∷ s.rest) s.vars) e ≡ Is (value u n)
    → Owes g s (set_slot u (height (under ++ s.base)) e ∷ []) left (exec.Leaves (value u n ∷ under) s.now)
sets {g} {s} {under} {u} place n fits left e is =
    let h : ℕ = height (under ++ s.base) in
    leaves_value place place.stands (value u n) (type_of-value u n) (value_number u n fits) [] left (omega arith) (omega arith)
    (set_reaches g s.machine s.rest s.vars (slot u h) e (slot_is_no_depth u h)
    (number_taken u (named (slot u h) s.vars) (value u n) (place.stands.variables.declared u h place.there) (type_of-value u n)) is)

-- a trap in as many statements as a step pays
pub traps : {g : Site} {stack : List Value} {now : store.State} {m : state.Machine} {vars : state.Vars} → StandsAt g stack now m vars
    → (kind : _) (left : ℕ) {most : ℕ} {from : Progress}
    → ComesWithin g.program most from (Over (over g.pending m (Stopped (state.Trapped kind)))) → most ≤ 400
    → EndsAlike g.program g.linked g.pending 0 from (suc left) (exec.Trapped kind) now.store now.trail
traps {m} stood kind left came few = ends_by m (state.Trapped kind) refl stood.together.agrees came.way (omega (arith, came.few, few))

-- ---- a call of a helper

-- the function waits for the call that its next statement makes
abbrev pub waiting : Site → Option state.Name → List tree.Stmt → state.Vars → List state.Frame
waiting g target rest vars = record { target = target; running = running g rest vars } ∷ g.below

helper_called : (g : Site) {m : state.Machine} (vars : state.Vars) (target : Option state.Name) (which : Helper) (args : List tree.Arg)
    {values : List state.CValue} (rest : List tree.Stmt) → Defines g.program g.unit (helper_of which)
    → evaluate_args g.program m (running g (call_helper target which args ∷ rest) vars) args ≡ Is values
    → Calls g.program m (running g (call_helper target which args ∷ rest) vars) target (helper_of which) values rest
helper_called g vars target which args rest defined is = record {
  args = args;
  next = refl;
  evaluated = is;
  is_no_primitive = defined.is_no_primitive;
  item = defined.item;
  body = defined.body;
  has_body = defined.has_body;
  defined = defined.defined;
}

pub helper_comes : (g : Site) {m : state.Machine} (vars : state.Vars) (target : Option state.Name) (which : Helper) (args : List tree.Arg)
    {values : List state.CValue} (rest : List tree.Stmt) {most : ℕ} {end : CallEnd} → Defines g.program g.unit (helper_of which)
    → evaluate_args g.program m (running g (call_helper target which args ∷ rest) vars) args ≡ Is values
    → CallComesTo most (helper_of which) values m end
    → ComesWithin g.program (suc most) (at g m (call_helper target which args ∷ rest) vars)
    (call_ended g.program g.pending end (waiting g target rest vars))
helper_comes g vars target which args rest defined is comes =
    statement_comes_to _ _ _ _ _ _ _ _ _ _ _ (helper_called g vars target which args rest defined is) comes

pub helper_comes_between : (g : Site) {m : state.Machine} (vars : state.Vars) (target : Option state.Name)
    (which : Helper) (args : List tree.Arg) {values : List state.CValue} (rest : List tree.Stmt) {least most : ℕ} {end : CallEnd}
    → Defines g.program g.unit (helper_of which)
    → evaluate_args g.program m (running g (call_helper target which args ∷ rest) vars) args ≡ Is values
    → CallComesBetween least most (helper_of which) values m end
    → ComesBetween g.program (suc least) (suc most) (at g m (call_helper target which args ∷ rest) vars)
    (call_ended g.program g.pending end (waiting g target rest vars))
helper_comes_between g vars target which args rest defined is comes =
    statement_comes_between _ _ _ _ _ _ _ _ _ _ _ _ (helper_called g vars target which args rest defined is) comes

abbrev rest_of : Progress → List tree.Stmt
rest_of (Going pending s) = s.running.rest
rest_of (Over run) = []

-- a way that leaves_number a statement behind has a statement
pub takes_one : (g : Site) {m after : state.Machine} {s : tree.Stmt} {rest : List tree.Stmt} {vars new : state.Vars} (statements : ℕ)
    → Reaches g.program statements (at g m (s ∷ rest) vars) (at g after rest new) → 1 ≤ statements
takes_one g {s} {rest} zero way = let same : length (s ∷ rest) ≡ length rest =
    ap (λ (x : Progress). length (rest_of x)) way.there in absurd (omega (arith, same))
takes_one g (suc n) way = omega arith

-- the value of a call goes to the slot on top
pub back_to_top : (g : Site) {m : state.Machine}
    (after : state.Machine) {vars : state.Vars} {s : tree.Stmt} {rest : List tree.Stmt} (t : ValType) (height : ℕ) {most : ℕ} (v : Value)
    → HoldsNumber t (named (slot t height) vars) → type_of v ≡ t → ComesWithin g.program most (at g m (s ∷ rest) vars)
    (go_on g.program g.pending (assign after (running g rest vars) (slot t height) (state.Number v) g.below))
    → ComesWithin g.program most (at g m (s ∷ rest) vars) (at g after rest (with_named (slot t height) (state.Number v) vars))
back_to_top g {m} after {vars} {s} {rest} t height v there typed came = record {
  statements = came.statements;
  few = came.few;
  way = subst (λ (x : Step). Reaches g.program came.statements (at g m (s ∷ rest) vars) (go_on g.program g.pending x))
      (assign_slot after (running g rest vars) t height v g.below there typed) came.way;
}

-- a helper that changes nothing gives its answer to the slot on top, or traps
pub answer_does : {g : Site} {s : Spot} {under : List Value} {u : ValType} → Place g s under u → (answer : Answer)
    → AnswerFits (bits u) answer → (left : ℕ) {stmt : tree.Stmt} → ComesWithin g.program 391 (at g s.machine (stmt ∷ s.rest) s.vars)
    (call_ended g.program g.pending (answered s.machine u answer) (waiting g (Some (slot u (height (under ++ s.base)))) s.rest s.vars))
    → Owes g s (stmt ∷ []) left (exec.answered u answer under s.now)
answer_does {g} {s} {under} {u} place (Gives n) fits left came =
    let h : ℕ = height (under ++ s.base) in
    let v : Value = value u n in
    let back = back_to_top g s.machine u h v (place.stands.variables.declared u h place.there) (type_of-value u n) came in
    leaves_value place place.stands v (type_of-value u n) (value_number u n fits) [] left (takes_one g back.statements back.way)
    (omega (arith, back.few)) back.way
answer_does place (Traps kind) fits left came = traps place.stands kind left came (omega arith)

pub helper_gives : {g : Site} {s : Spot} {under : List Value} {u : ValType} → Place g s under u
    → (left : ℕ) (which : Helper) (args : List tree.Arg) {given : List state.CValue} (answer : Answer)
    → Defines g.program g.unit (helper_of which) → evaluate_args g.program s.machine
    (running g (call_helper (Some (slot u (height (under ++ s.base)))) which args ∷ s.rest) s.vars) args ≡ Is given
    → CallComesTo 390 (helper_of which) given s.machine (answered s.machine u answer) → AnswerFits (bits u) answer
    → Owes g s (call_helper (Some (slot u (height (under ++ s.base)))) which args ∷ []) left (exec.answered u answer under s.now)
helper_gives {g} {s} {under} {u} place left which args answer defined is comes fits =
    answer_does place answer fits left (helper_comes g s.vars _ which args s.rest defined is comes)
