-- The statements of an init function that runs, each as a way of one step (C11, 6.8).
use Rattle.init_meaning.proofs.Common.{jump, refl, ◌+◌, join, ◌≡◌, ℕ, false, List, ◌∷◌, Some, None, Option, bytes_eq, ap, subst, named}
use Rattle.init_meaning.proofs.Common.{with_named, TrapKind, ImportLimits, SegmentOut, Value, I32, COp, Void, step, Program, func_named}
use Rattle.init_meaning.proofs.Common.{var_in, with_var, Effect, Gives, primitive, Reaches, Going, Over, Pending, Progress, Stopped, go_on}
use Rattle.init_meaning.proofs.Common.{over, CValue, Frame, FuncAddress, Is, Machine, Running, State, Vars, Next, Step, after_label, assign}
use Rattle.init_meaning.proofs.Common.{c_step, call, depth_name, evaluate, evaluate_arg, evaluate_args, give, zero_like}
use Rattle.c_tree.specs.Tree as tree
use Rattle.c_meaning.specs.State.{Name, Trapped}
use Rattle.c_tree.specs.Makers as makers
use Rattle.init_meaning.specs.Zeros.{held}
use Rattle.init_meaning.proofs.Held.{held_in, held_there, put_where_held}

-- what does not change while an init function or a part of it runs: the program, the unit and the item of the function, all
-- its statements, what is pending, who waits for the function, and who waits for the init function
pub record Seat : Type 0 where
  pub program : Program
  pub unit : ℕ
  pub item : ℕ
  pub stmts : List tree.Stmt
  pub pending : Pending
  pub below : List Frame
  pub last : List Frame

-- an init function gives nothing
abbrev pub running : Seat → List tree.Stmt → Vars → Running
running g rest vars = record { unit = g.unit; item = g.item; result = Void; stmts = g.stmts; rest = rest; vars = vars }

abbrev pub state_at : Seat → Machine → List tree.Stmt → Vars → State
state_at g m rest vars = record { machine = m; running = running g rest vars; below = g.below }

abbrev pub at : Seat → Machine → List tree.Stmt → Vars → Progress
at g m rest vars = Going g.pending (state_at g m rest vars)

-- what an expression, and an argument, gives wherever the function stands
abbrev pub Evaluates : Seat → Machine → Vars → tree.Expr → Value → Type 0
Evaluates g m vars e v = (rest : List tree.Stmt) → evaluate g.program m (running g rest vars) e ≡ Is v

abbrev pub Gets : Seat → Machine → Vars → tree.Arg → CValue → Type 0
Gets g m vars a v = (rest : List tree.Stmt) → evaluate_arg g.program m (running g rest vars) a ≡ Is v

abbrev pub GetsAll : Seat → Machine → Vars → List tree.Arg → List CValue → Type 0
GetsAll g m vars args values = (rest : List tree.Stmt) → evaluate_args g.program m (running g rest vars) args ≡ Is values

-- one way behind another
pub joined : {p : Program} {n k : ℕ} {x y z : Progress} → Reaches p n x y → Reaches p k y z → Reaches p (n + k) x z
joined first second = join _ _ _ _ _ _ first second

-- the step of a statement
comes : (g : Seat) (m : Machine) (rest : List tree.Stmt) (vars : Vars) (to : Step)
    → c_step g.program (state_at g m rest vars) ≡ to → Reaches g.program 1 (at g m rest vars) (go_on g.program g.pending to)
comes g m rest vars to e =
    subst (λ s. Reaches g.program 1 (at g m rest vars) (go_on g.program g.pending s)) e (step g.program g.pending (state_at g m rest vars))

comes_to : (g : Seat) (m : Machine) (rest : List tree.Stmt) (vars : Vars) (after : State)
    → c_step g.program (state_at g m rest vars) ≡ Next after → Reaches g.program 1 (at g m rest vars) (Going g.pending after)
comes_to g m rest vars after e = comes g m rest vars (Next after) e

pub null_goes : (g : Seat) (m : Machine) (rest : List tree.Stmt) (vars : Vars)
    → Reaches g.program 1 (at g m (tree.Null ∷ rest) vars) (at g m rest vars)
null_goes g m rest vars = step g.program g.pending (state_at g m (tree.Null ∷ rest) vars)

-- a local variable, and a variable of the unit, is set
assigns_local : (g : Seat) (m : Machine) (name : Name) (v : CValue) (rest : List tree.Stmt) (vars : Vars)
    → bytes_eq name depth_name ≡ false → held name vars ≡ Some (zero_like v)
    → assign m (running g rest vars) name v g.below ≡ Next (state_at g m rest (with_named name v vars))
assigns_local g m name v rest vars apart there =
    rw (apart, held_there name vars (zero_like v) there)
    (put_where_held m (named name vars) v (Next (state_at g m rest (with_named name v vars))) there)

assigns_global : (g : Seat) (m : Machine) (name : Name) (v : CValue) (rest : List tree.Stmt) (vars : Vars)
    → bytes_eq name depth_name ≡ false → named name vars ≡ None → held_in m (record { unit = g.unit; name = name }) ≡ Some (zero_like v)
    → assign m (running g rest vars) name v g.below ≡ Next (state_at g (with_var m (record { unit = g.unit; name = name }) v) rest vars)
assigns_global g m name v rest vars apart none there =
    rw (apart, none) (put_where_held m (var_in m (record { unit = g.unit; name = name })) v
    (Next (state_at g (with_var m (record { unit = g.unit; name = name }) v) rest vars)) there)

pub set_local_goes : (g : Seat) (m : Machine) (name : Name) (a : tree.Arg) (v : CValue) (rest : List tree.Stmt) (vars : Vars)
    → bytes_eq name depth_name ≡ false → held name vars ≡ Some (zero_like v) → Gets g m vars a v
    → Reaches g.program 1 (at g m (tree.Set name a ∷ rest) vars) (at g m rest (with_named name v vars))
set_local_goes g m name a v rest vars apart there gets =
    comes_to g m _ vars _ (rw (gets (tree.Set name a ∷ rest)) (assigns_local g m name v rest vars apart there))

pub set_global_goes : (g : Seat) (m : Machine) (name : Name) (a : tree.Arg) (v : CValue) (rest : List tree.Stmt) (vars : Vars)
    → bytes_eq name depth_name ≡ false → named name vars ≡ None → held_in m (record { unit = g.unit; name = name }) ≡ Some (zero_like v)
    → Gets g m vars a v
    → Reaches g.program 1 (at g m (tree.Set name a ∷ rest) vars) (at g (with_var m (record { unit = g.unit; name = name }) v) rest vars)
set_global_goes g m name a v rest vars apart none there gets =
    comes_to g m _ vars _ (rw (gets (tree.Set name a ∷ rest)) (assigns_global g m name v rest vars apart none there))

-- ---- calls

abbrev pub frame : Seat → Option Name → List tree.Stmt → Vars → Frame
frame g target rest vars = record { target = target; running = running g rest vars }

-- a primitive that gives nothing, and one whose value a local variable gets
pub effect_goes : (g : Seat) (m after : Machine) (name : Name) (args : List tree.Arg) (rest : List tree.Stmt) (vars : Vars)
    (values : List CValue) (does : List CValue → Machine → Effect)
    → GetsAll g m vars args values → primitive name ≡ Some does → does values m ≡ Gives after None
    → Reaches g.program 1 (at g m (tree.Call None (tree.Called name) args ∷ rest) vars) (at g after rest vars)
effect_goes g m after name args rest vars values does gets is gives =
    comes_to g m _ vars _ (rw (gets (tree.Call None (tree.Called name) args ∷ rest), is, gives) refl)

-- the same behind a label, which costs nothing
pub effect_behind_label : (g : Seat) (m after : Machine) (label name : Name) (args : List tree.Arg) (rest : List tree.Stmt) (vars : Vars)
    (values : List CValue) (does : List CValue → Machine → Effect)
    → GetsAll g m vars args values → primitive name ≡ Some does → does values m ≡ Gives after None
    → Reaches g.program 1 (at g m (tree.Label label ∷ tree.Call None (tree.Called name) args ∷ rest) vars) (at g after rest vars)
effect_behind_label g m after label name args rest vars values does gets is gives =
    comes_to g m _ vars _ (rw (gets (tree.Label label ∷ tree.Call None (tree.Called name) args ∷ rest), is, gives) refl)

pub value_goes : (g : Seat) (m : Machine) (target name : Name) (args : List tree.Arg) (v : CValue) (rest : List tree.Stmt) (vars : Vars)
    (values : List CValue) (does : List CValue → Machine → Effect) → GetsAll g m vars args values → primitive name ≡ Some does
    → does values m ≡ Gives m (Some v) → bytes_eq target depth_name ≡ false → held target vars ≡ Some (zero_like v)
    → Reaches g.program 1 (at g m (tree.Call (Some target) (tree.Called name) args ∷ rest) vars) (at g m rest (with_named target v vars))
value_goes g m target name args v rest vars values does gets is gives apart there =
    comes_to g m _ vars _ (rw (gets (tree.Call (Some target) (tree.Called name) args ∷ rest), is, gives)
    (assigns_local g m target v rest vars apart there))

-- the traps at the end
abbrev pub TrapGoes : TrapKind → Type 0
TrapGoes kind = (g : Seat) (m : Machine) (rest : List tree.Stmt) (vars : Vars)
    → Reaches g.program 1 (at g m (makers.trap kind ∷ rest) vars) (Over (over g.pending m (Stopped (Trapped kind))))

pub limits_trap : TrapGoes ImportLimits
limits_trap g m rest vars = step g.program g.pending (state_at g m (makers.trap ImportLimits ∷ rest) vars)

pub bounds_trap : TrapGoes SegmentOut
bounds_trap g m rest vars = step g.program g.pending (state_at g m (makers.trap SegmentOut ∷ rest) vars)

-- a function that is called by its name
pub call_goes : (g : Seat) (m : Machine) (target : Option Name) (name : Name) (args : List tree.Arg) (f : FuncAddress)
    (rest : List tree.Stmt) (vars : Vars) (values : List CValue)
    → GetsAll g m vars args values → primitive name ≡ None → func_named g.program g.unit name ≡ Some f
    → Reaches g.program 1 (at g m (tree.Call target (tree.Called name) args ∷ rest) vars)
    (go_on g.program g.pending (call g.program f m values (frame g target rest vars ∷ g.below)))
call_goes g m target name args f rest vars values gets is found =
    comes g m _ vars (call g.program f m values (frame g target rest vars ∷ g.below))
    (rw (gets (tree.Call target (tree.Called name) args ∷ rest), is, found) refl)

-- its value goes to a pointer of the unit
pub pointer_goes : (g : Seat) (m : Machine) (target : Name) (v : CValue) (rest : List tree.Stmt) (vars : Vars)
    → bytes_eq target depth_name ≡ false → named target vars ≡ None
    → held_in m (record { unit = g.unit; name = target }) ≡ Some (zero_like v)
    → go_on g.program g.pending (give m (Some v) (frame g (Some target) rest vars ∷ g.below))
    ≡ at g (with_var m (record { unit = g.unit; name = target }) v) rest vars
pointer_goes g m target v rest vars apart none there = ap (go_on g.program g.pending)
    (assigns_global g m target v rest vars apart none there)

-- ---- tests

pub test_goes : (g : Seat) (m : Machine) (op : COp) (left right : tree.Expr) (name : Name) (rest : List tree.Stmt) (vars : Vars)
    → Evaluates g m vars (tree.Op op left right) (I32 0)
    → Reaches g.program 1 (at g m (tree.If op left right name ∷ rest) vars) (at g m rest vars)
test_goes g m op left right name rest vars is = comes_to g m _ vars _ (rw (is (tree.If op left right name ∷ rest)) refl)

pub test_jumps : (g : Seat) (m : Machine) (op : COp) (left right : tree.Expr) (name : Name) (to rest : List tree.Stmt) (vars : Vars)
    → Evaluates g m vars (tree.Op op left right) (I32 1) → after_label name g.stmts ≡ Some to
    → Reaches g.program 1 (at g m (tree.If op left right name ∷ rest) vars) (at g m to vars)
test_jumps g m op left right name to rest vars is found =
    comes_to g m _ vars _ (rw (is (tree.If op left right name ∷ rest)) (rw (found, jump) refl))
