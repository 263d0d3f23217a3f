-- Arguments are evaluated from left to right.
use Rattle.c_machine.proofs.Common.{◌≡◌, ℕ, ◌+◌, ◌≤◌, List, [], ◌∷◌, ◌++◌, map, drop, slice_get, Some, Err, sym, refl, ap, ◌∙◌}
use Rattle.c_machine.proofs.Common.{append_assoc, map_push, drop_front, Program, CValue, Evaluated, Is, Machine, NoRule, Running}
use Rattle.c_machine.proofs.Common.{then_evaluate, evaluate_arg, evaluate_args}
use Rattle.c_tree.specs.Tree as tree
use Rattle.c_machine.specs.declared.evaluation.Fault.{Fault}
use Rattle.c_machine.specs.declared.evaluation.Fault.TheVariants as fault
use Rattle.c_machine.specs.Scope.{evaluated}

bad : (f : Fault) (go : CValue → Evaluated (List CValue)) (more : List CValue → Evaluated (List CValue))
    → then_evaluate (then_evaluate (evaluated {A = CValue} (Err f)) go) more ≡ evaluated (Err f)
bad (fault.Undefined kind) go more = refl
bad fault.NoRule go more = refl

-- values of any kind, seen as those of C
module _ {V : Type 0} (view : V → CValue) where
  -- the values so far, and what the arguments from the i-th on give, are what all give
  abbrev pub Evaluates : Program → Machine → Running → List V → ℕ → List tree.Arg → Type 0
  Evaluates p m r values i args =
      evaluate_args p m r args ≡ then_evaluate (evaluate_args p m r (drop i args)) (λ vs. Is (map view values ++ vs))

  regroup : (done : List V) (v : V) (e : Evaluated (List CValue))
      → then_evaluate (then_evaluate e (λ values. Is (view v ∷ values))) (λ vs. Is (map view done ++ vs))
      ≡ then_evaluate e (λ vs. Is (map view (done ++ v ∷ []) ++ vs))
  regroup done v (Is vs) = ap Is (sym (ap (λ l. l ++ vs) (map_push view done v) ∙ append_assoc (map view done) (view v ∷ []) vs))
  regroup done v _ = refl

  pub evaluates_next : (p : Program) (m : Machine) (r : Running) (done : List V) (i : ℕ) (args : List tree.Arg) (a : tree.Arg)
      (v : V) → slice_get args i ≡ Some a
      → Is (view v) ≡ evaluate_arg p m r a → Evaluates p m r done i args → Evaluates p m r (done ++ v ∷ []) (i + 1) args
  evaluates_next p m r done i args a v at is so_far =
      let front = ap (λ l. then_evaluate (evaluate_args p m r l) (λ vs. Is (map view done ++ vs))) (drop_front args i a at) in
      let first = ap (λ e. then_evaluate (then_evaluate e (λ v. then_evaluate (evaluate_args p m r (drop (i + 1) args))
      (λ values. Is (v ∷ values)))) (λ vs. Is (map view done ++ vs))) (sym is) in
      so_far ∙ front ∙ first ∙ regroup done v (evaluate_args p m r (drop (i + 1) args))

  pub evaluates_fault : (p : Program) (m : Machine) (r : Running) (done : List V) (i : ℕ) (args : List tree.Arg) (a : tree.Arg)
      (f : Fault) → slice_get args i ≡ Some a
      → evaluated {A = CValue} (Err f) ≡ evaluate_arg p m r a → Evaluates p m r done i args → evaluate_args p m r args ≡ evaluated (Err f)
  evaluates_fault p m r done i args a f at is so_far =
      let front = ap (λ l. then_evaluate (evaluate_args p m r l) (λ vs. Is (map view done ++ vs))) (drop_front args i a at) in
      let first = ap (λ e. then_evaluate (then_evaluate e (λ v. then_evaluate (evaluate_args p m r (drop (i + 1) args))
      (λ values. Is (v ∷ values)))) (λ vs. Is (map view done ++ vs))) (sym is) in
      so_far ∙ front ∙ first ∙ bad f _ _
