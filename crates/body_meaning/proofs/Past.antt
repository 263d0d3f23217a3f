-- Labels cost nothing: a step from a place is the step from behind the labels that stand there.
use Rattle.body_meaning.proofs.Common.{◌≡◌, ℕ, zero, suc, ◌<◌, List, [], ◌∷◌, Some, sym, refl, ap, ◌∙◌, subst, Program, Reaches, Going}
use Rattle.body_meaning.proofs.Common.{IsGoing, Pending, Progress, go_on, Frame, Is, Machine, Number, Running, then_evaluate, act, assign}
use Rattle.body_meaning.proofs.Common.{at_rest, c_step, evaluate, evaluate_arg, evaluate_args, label_of, place_of, returned, with_value}
use Rattle.body_meaning.proofs.Common.{Site, at, labelled, state_at}
use Rattle.c_tree.specs.Tree as tree
use Rattle.c_meaning.specs.State as state
use Rattle.c_meaning.specs.Step.{jump}
use Rattle.c_meaning.specs.Run.{after}

-- what an expression comes to does not depend on the statements to come
evaluate_same : (p : Program) (m : Machine) (r : Running) (xs ys : List tree.Stmt) (e : tree.Expr)
    → evaluate p m (at_rest r xs) e ≡ evaluate p m (at_rest r ys) e
evaluate_same p m r xs ys (tree.At name index) = rw (evaluate_same p m r xs ys index) refl
evaluate_same p m r xs ys (tree.To32 e) = rw (evaluate_same p m r xs ys e) refl
evaluate_same p m r xs ys (tree.To64 e) = rw (evaluate_same p m r xs ys e) refl
evaluate_same p m r xs ys (tree.Op op left right) = rw (evaluate_same p m r xs ys left, evaluate_same p m r xs ys right) refl
evaluate_same p m r xs ys _ = refl

arg_same : (p : Program) (m : Machine) (r : Running) (xs ys : List tree.Stmt) (a : tree.Arg)
    → evaluate_arg p m (at_rest r xs) a ≡ evaluate_arg p m (at_rest r ys) a
arg_same p m r xs ys (tree.Value (tree.Name name)) = refl
arg_same p m r xs ys (tree.Value e) = ap (λ x. then_evaluate x (λ v. Is (Number v))) (evaluate_same p m r xs ys e)
arg_same p m r xs ys _ = refl

args_same : (p : Program) (m : Machine) (r : Running) (xs ys : List tree.Stmt) (args : List tree.Arg)
    → evaluate_args p m (at_rest r xs) args ≡ evaluate_args p m (at_rest r ys) args
args_same p m r xs ys [] = refl
args_same p m r xs ys (a ∷ args) = rw (arg_same p m r xs ys a, args_same p m r xs ys args) refl

-- what statements do does not depend on what the function's record says of those to come
act_same : (p : Program) (m : Machine) (r : Running) (xs ys code : List tree.Stmt) (below : List Frame)
    → act p m (at_rest r xs) code below ≡ act p m (at_rest r ys) code below
act_same p m r xs ys [] below = refl
act_same p m r xs ys (tree.Label name ∷ rest) below = act_same p m r xs ys rest below
act_same p m r xs ys (tree.Null ∷ rest) below = refl
act_same p m r xs ys (tree.Set name a ∷ rest) below =
    ap (λ x. with_value m (place_of r rest) x (λ v. assign m (at_rest r rest) name v below)) (arg_same p m r xs ys a)
act_same p m r xs ys (tree.SetStar name e ∷ rest) below = rw (evaluate_same p m r xs ys e) refl
act_same p m r xs ys (tree.Call target (tree.Called name) args ∷ rest) below = rw (args_same p m r xs ys args) refl
act_same p m r xs ys (tree.Call target (tree.Through want name) args ∷ rest) below = rw (args_same p m r xs ys args) refl
act_same p m r xs ys (tree.Goto name ∷ rest) below = refl
act_same p m r xs ys (tree.If op left right name ∷ rest) below = rw (evaluate_same p m r xs ys (tree.Op op left right)) refl
act_same p m r xs ys (tree.Switch e cases default ∷ rest) below =
    ap (λ x. with_value m (place_of r rest) x (λ v. jump m r (label_of v cases default) below)) (evaluate_same p m r xs ys e)
act_same p m r xs ys (tree.ReturnNone ∷ rest) below = refl
act_same p m r xs ys (tree.Return a ∷ rest) below =
    ap (λ x. with_value m (place_of r rest) x (λ v. returned m r (Some v) below)) (arg_same p m r xs ys a)

pub past_labels : (g : Site) (m : Machine) (names : List state.Name) (rest : List tree.Stmt) (vars : state.Vars)
    → c_step g.program (state_at g m (labelled names rest) vars) ≡ c_step g.program (state_at g m rest vars)
past_labels g m [] rest vars = refl
past_labels g m (name ∷ names) rest vars =
    let s = state_at g m rest vars in
    act_same g.program m s.running (tree.Label name ∷ labelled names rest) (labelled names rest) (labelled names rest) g.below
    ∙ past_labels g m names rest vars

-- two states with one step
pub same_step : {p : Program} {pending : Pending} (s : state.State) {t : state.State} {k : ℕ} {to : Progress} → c_step p s ≡ c_step p t
    → Reaches p (suc k) (Going pending t) to → Reaches p (suc k) (Going pending s) to
same_step {p} {pending} s {k} same way =
    record { there = ap (λ x. after p k (go_on p pending x)) same ∙ way.there; on_the_way = on_the_way }
  where
    on_the_way : (m : ℕ) → m < suc k → IsGoing (after p m (Going pending s))
    on_the_way zero less = tt
    on_the_way (suc m) less = subst (λ x. IsGoing (after p m (go_on p pending x))) (sym same) (way.on_the_way (suc m) less)

pub past_way : (g : Site) {m : Machine} (names : List state.Name) {rest : List tree.Stmt} {vars : state.Vars} {k : ℕ} {to : Progress}
    → Reaches g.program (suc k) (at g m rest vars) to → Reaches g.program (suc k) (at g m (labelled names rest) vars) to
past_way g {m} names {rest} {vars} way = same_step (state_at g m (labelled names rest) vars) (past_labels g m names rest vars) way
