-- What a statement comes to, from what its parts come to.
use Rattle.c_thread.proofs.Common.{◌≡◌, ℕ, zero, suc, ◌+◌, ◌-◌, ◌<◌, Bool, true, false, not, List, [], ◌∷◌, length, drop, if◌then◌else◌}
use Rattle.c_thread.proofs.Common.{◌==◌, slice_get, Some, None, Err, Option, Result, sym, refl, ap, ◌∙◌, arith, length-drop}
use Rattle.c_thread.proofs.Common.{slice_get_within, Trail, number_of, Value, Program, Bad, CValue, Evaluated, Is, Machine, Name, NoRule}
use Rattle.c_thread.proofs.Common.{Place, Running, Stuck, Undefined, Waiting, then_evaluate, Step, Stops, act, assign, at_rest, c_step}
use Rattle.c_thread.proofs.Common.{call_callee, evaluate, evaluate_args, jump, label_of, next, returned, Naming, Held, act-behind_labels}
use Rattle.c_thread.proofs.Common.{behind_labels, IsNext, stmts_at, stmts_of, assigned_to, below_in, failed, items_at, machine_in, place_in}
use Rattle.c_thread.proofs.Common.{running_in, state_in, all_evaluated, held_evaluated, LinkedFrame}
use Rattle.c_tree.specs.declared.tree.COp.{COp}
use Rattle.c_tree.specs.Tree as tree
use Rattle.c_meaning.specs.Step.{evaluate_arg, place_of, value_of, with_value}
use Rattle.c_machine.specs.declared.evaluation.Fault.{Fault}
use Rattle.c_machine.specs.declared.evaluation.Fault.TheVariants as fault
use Rattle.c_machine.specs.Scope.{evaluated}
use Rattle.c_thread.specs.declared.linked.LinkedThread.{LinkedThread}

-- the place of the statement in front of the position
pub place_is : (names : Naming) (p : Program) (f : LinkedFrame) (rest : List tree.Stmt) (s : tree.Stmt) → 0 < f.at
    → slice_get (stmts_at (items_at p f.unit) f.item) (f.at - 1) ≡ Some s
    → place_of (at_rest (running_in names p f) rest) (drop f.at (stmts_at (items_at p f.unit) f.item)) ≡ place_in f
place_is names p f rest s some at =
    let stmts = stmts_at (items_at p f.unit) f.item in
    let within = slice_get_within stmts (f.at - 1) s at in
    let count : length stmts - length (drop f.at stmts) ≡ f.at = omega (arith, within, some, length-drop f.at stmts) in
    ap (λ n. record { unit = f.unit; item = f.item; statement = n }) count

-- a fault is one whatever was evaluated
pub same_fault : (names : Naming) (why : Fault) → evaluated (Err why) ≡ held_evaluated names (Err why)
same_fault names (fault.Undefined kind) = refl
same_fault names fault.NoRule = refl

pub all_fault : {V : Type 0} (names : Naming) (items : V → List Held) (r : Result V Fault) (why : Fault) → r ≡ Err why
    → all_evaluated names items r ≡ evaluated (Err why)
all_fault names items r (fault.Undefined kind) is = ap (all_evaluated names items) is
all_fault names items r fault.NoRule is = ap (all_evaluated names items) is

-- a statement in front of the position
module _ (names : Naming) (p : Program) (trail : Trail) (t : LinkedThread) (over : List tree.Stmt) (s : tree.Stmt) (some : 0 < t.top.at)
    (its : List tree.Item) (own : items_at p t.top.unit ≡ its) (at : slice_get (stmts_at its t.top.item) (t.top.at - 1) ≡ Some s) where
  abbrev m : Machine
  m = machine_in names trail t

  abbrev r : Running
  r = at_rest (running_in names p t.top) over

  abbrev rest : List tree.Stmt
  rest = drop t.top.at (stmts_at (items_at p t.top.unit) t.top.item)

  abbrev below : List Waiting
  below = below_in names p t.below.items

  abbrev place : Place
  place = place_in t.top

  here : place_of r rest ≡ place
  here = place_is names p t.top over s some (ap (λ items. slice_get (stmts_at items t.top.item) (t.top.at - 1)) own ∙ at)

  acts : {o : tree.Stmt} → s ≡ o → act p m r (s ∷ rest) below ≡ act p m r (o ∷ rest) below
  acts is = ap (λ (x : tree.Stmt). act p m r (x ∷ rest) below) is

  fails : {A : Type 0} (e : Evaluated A) (go : A → Step) (why : Fault) → e ≡ evaluated (Err why)
      → with_value m (place_of r rest) e go ≡ failed m place why
  fails e go (fault.Undefined kind) is = ap (λ x. with_value m (place_of r rest) x go) is ∙ ap (λ p. Stops m (Undefined kind p)) here
  fails e go fault.NoRule is = ap (λ x. with_value m (place_of r rest) x go) is

  passes : {A : Type 0} (e : Evaluated A) (go : A → Step) (v : A) → e ≡ Is v → with_value m (place_of r rest) e go ≡ go v
  passes e go v is = ap (λ x. with_value m (place_of r rest) x go) is

  pub acts_set : (name : Name) (a : tree.Arg) (v : CValue) → s ≡ tree.Set name a → Is v ≡ evaluate_arg p m r a
      → act p m r (s ∷ rest) below ≡ assign m (at_rest r rest) name v below
  acts_set name a v now is = acts now ∙ passes (evaluate_arg p m r a) (λ v. assign m (at_rest r rest) name v below) v (sym is)

  pub acts_set_badly : (name : Name) (a : tree.Arg) (why : Fault) → s ≡ tree.Set name a → evaluated (Err why) ≡ evaluate_arg p m r a
      → act p m r (s ∷ rest) below ≡ failed m place why
  acts_set_badly name a why now is = acts now ∙ fails (evaluate_arg p m r a) (λ v. assign m (at_rest r rest) name v below) why (sym is)

  pub acts_return : (a : tree.Arg) (v : CValue) → s ≡ tree.Return a → Is v ≡ evaluate_arg p m r a
      → act p m r (s ∷ rest) below ≡ returned m r (Some v) below
  acts_return a v now is = acts now ∙ passes (evaluate_arg p m r a) (λ v. returned m r (Some v) below) v (sym is)

  pub acts_return_badly : (a : tree.Arg) (why : Fault) → s ≡ tree.Return a → evaluated (Err why) ≡ evaluate_arg p m r a
      → act p m r (s ∷ rest) below ≡ failed m place why
  acts_return_badly a why now is = acts now ∙ fails (evaluate_arg p m r a) (λ v. returned m r (Some v) below) why (sym is)

  pub acts_call : (target : Option Name) (callee : tree.Callee) (args : List tree.Arg) (values : List CValue)
      → s ≡ tree.Call target callee args → evaluate_args p m r args ≡ Is values
      → act p m r (s ∷ rest) below
      ≡ call_callee p callee place m r values (record { target = target; running = at_rest r rest } ∷ below)
  acts_call target callee args values now is =
      acts now ∙ passes (evaluate_args p m r args) (λ vs. call_callee p callee (place_of r rest) m r vs (record
      { target = target; running = at_rest r rest } ∷ below)) values is
      ∙ ap (λ l. call_callee p callee l m r values (record { target = target; running = at_rest r rest } ∷ below)) here

  pub acts_call_badly : (target : Option Name) (callee : tree.Callee) (args : List tree.Arg) (why : Fault)
      → s ≡ tree.Call target callee args → evaluate_args p m r args ≡ evaluated (Err why)
      → act p m r (s ∷ rest) below ≡ failed m place why
  acts_call_badly target callee args why now is =
      acts now ∙ fails (evaluate_args p m r args) (λ vs. call_callee p callee (place_of r rest) m r vs (record
      { target = target; running = at_rest r rest } ∷ below)) why is

  pub acts_switch : (e : tree.Expr) (cases : List tree.Case) (default : Name) (v : Value) → s ≡ tree.Switch e cases default
      → Is v ≡ evaluate p m r e
      → act p m r (s ∷ rest) below ≡ jump m r (label_of v cases default) below
  acts_switch e cases default v now is = acts now ∙ passes (evaluate p m r e) (λ v. jump m r (label_of v cases default) below) v (sym is)

  pub acts_switch_badly : (e : tree.Expr) (cases : List tree.Case) (default : Name) (why : Fault) → s ≡ tree.Switch e cases default
      → evaluated (Err why) ≡ evaluate p m r e
      → act p m r (s ∷ rest) below ≡ failed m place why
  acts_switch_badly e cases default why now is =
      acts now ∙ fails (evaluate p m r e) (λ v. jump m r (label_of v cases default) below) why (sym is)

  pub acts_star : (name : Name) (e : tree.Expr) (v : Value) → s ≡ tree.SetStar name e → Is v ≡ evaluate p m r e
      → act p m r (s ∷ rest) below ≡ assigned_to m (at_rest r rest) place (value_of m r name) v below
  acts_star name e v now is = acts now ∙ ap (λ x. with_value m (place_of r rest) x
      (λ v. assigned_to m (at_rest r rest) (place_of r rest) (value_of m r name) v below)) (sym is)
      ∙ ap (λ l. assigned_to m (at_rest r rest) l (value_of m r name) v below) here

  pub acts_star_badly : (name : Name) (e : tree.Expr) (why : Fault) → s ≡ tree.SetStar name e → evaluated (Err why) ≡ evaluate p m r e
      → act p m r (s ∷ rest) below ≡ failed m place why
  acts_star_badly name e why now is =
      acts now ∙ fails (evaluate p m r e) (λ v. assigned_to m (at_rest r rest) (place_of r rest) (value_of m r name) v below) why (sym is)

  abbrev branch : Name → Value → Step
  branch name v = if number_of v == 0 then next m (at_rest r rest) below else jump m r name below

  pub acts_if : (op : COp) (left right : tree.Expr) (name : Name) (b : Bool)
      → s ≡ tree.If op left right name → Is b ≡ then_evaluate (evaluate p m r (tree.Op op left right)) (λ v. Is (not (number_of v == 0)))
      → act p m r (s ∷ rest) below ≡ (if b then jump m r name below else next m (at_rest r rest) below)
  acts_if op left right name b now is = acts now ∙ go (evaluate p m r (tree.Op op left right)) is
    where
      by_test : (c : Bool) → Is b ≡ Is (not c) → (if c then next m (at_rest r rest) below else jump m r name below) ≡
          (if b then jump m r name below else next m (at_rest r rest) below)
      by_test true e = let no : false ≡ b = cc in rw (sym no) refl
      by_test false e = let yes : true ≡ b = cc in rw (sym yes) refl

      go : (x : Evaluated Value) → Is b ≡ then_evaluate x (λ v. Is (not (number_of v == 0)))
          → with_value m (place_of r rest) x (branch name) ≡ (if b then jump m r name below else next m (at_rest r rest) below)
      go (Is v) e = by_test (number_of v == 0) e
      go _ e = absurd cc

  pub acts_if_badly : (op : COp) (left right : tree.Expr) (name : Name) (why : Fault)
      → s ≡ tree.If op left right name
      → evaluated (Err why) ≡ then_evaluate (evaluate p m r (tree.Op op left right)) (λ v. Is (not (number_of v == 0)))
      → act p m r (s ∷ rest) below ≡ failed m place why
  acts_if_badly op left right name why now is =
      acts now ∙ fails (evaluate p m r (tree.Op op left right)) (branch name) why (same (evaluate p m r (tree.Op op left right)) why is)
    where
      same : (x : Evaluated Value) (why : Fault) → evaluated (Err why) ≡ then_evaluate x (λ v. Is (not (number_of v == 0)))
          → x ≡ evaluated (Err why)
      same (Is v) (fault.Undefined kind) e = absurd cc
      same (Is v) fault.NoRule e = absurd cc
      same (Bad kind) (fault.Undefined other) e = ap Bad cc
      same (Bad kind) fault.NoRule e = absurd cc
      same NoRule (fault.Undefined other) e = absurd cc
      same NoRule fault.NoRule e = refl

-- no statement is there
pub no_item : (at i : ℕ) (items : List tree.Item) → slice_get items i ≡ None → behind_labels (drop at (stmts_at items i)) ≡ []
no_item at i items none =
    ap (λ (o : Option tree.Item). behind_labels (drop at (elim o [ None ↦ [] | Some item ↦ stmts_of item ]))) none ∙ go at
  where
    go : (at : ℕ) → behind_labels (drop at []) ≡ []
    go zero = refl
    go (suc n) = refl

pub nothing : (at i : ℕ) (items : List tree.Item) → items ≡ [] → behind_labels (drop at (stmts_at items i)) ≡ []
nothing at i items none = no_item at i items (ap (λ its. slice_get its i) none)

-- a state in which no statement is left, and one in which a statement is next
module _ (names : Naming) (p : Program) (trail : Trail) (t : LinkedThread) where
  abbrev stmts : List tree.Stmt
  stmts = stmts_at (items_at p t.top.unit) t.top.item

  abbrev steps : List tree.Stmt → Step
  steps ss = act p (machine_in names trail t) (running_in names p t.top) ss (below_in names p t.below.items)

  pub ends : behind_labels (drop t.top.at stmts) ≡ [] → c_step p (state_in names p trail t) ≡ Stops (machine_in names trail t) Stuck
  ends none = act-behind_labels p (machine_in names trail t) (running_in names p t.top) (drop t.top.at stmts)
      (below_in names p t.below.items) ∙ ap steps none

  pub goes : (k : ℕ) (s : tree.Stmt) → IsNext stmts t.top.at k s → c_step p (state_in names p trail t) ≡ steps (s ∷ drop (k + 1) stmts)
  goes k s is = act-behind_labels p (machine_in names trail t) (running_in names p t.top) (drop t.top.at stmts)
      (below_in names p t.below.items) ∙ ap steps is.from
