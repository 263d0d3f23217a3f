-- What a run says of an assertion.
use Rattle.wast_run.proofs.Common.{◌≡◌, ℕ, suc, List, [], ◌∷◌, ◌++◌, length, Some, Option, sym, ap, ◌∙◌, inl, inr, arith, length-append}
use Rattle.wast_run.proofs.Common.{InCall, TrapKind, Value, LinkedSet, Ended, ListedCall, Stopped, Asserts, EndsWith, IsTimely, Runs}
use Rattle.wast_run.proofs.Common.{Setting, TrapsIn, calls_with, set_at, HasCome, IsLong, HasRun, IsEndWord, IsTrapWord, setting_of, Came}
use Rattle.wast_run.proofs.Common.{Stage, Word}
use Rattle.wasm_meaning.specs.Execution.{Trapped}
use Rattle.wast_script.specs.Commands as script
use Rattle.wast_run.specs.declared.runs.Came.TheVariants as came
use Rattle.wast_run.specs.declared.word.Word.TheVariants as word

not_empty : {A : Type 0} (xs : List A) (x : A) → [] ≡ xs ++ x ∷ [] → ⊥
not_empty [] x e = absurd cc
not_empty (y ∷ xs) x e = absurd cc

-- lists that end alike
pub same_last : {A : Type 0} (xs ys : List A) (x y : A) → xs ++ x ∷ [] ≡ ys ++ y ∷ [] → x ≡ y
same_last [] [] x y e = cc
same_last [] (b ∷ ys) x y e = let rest : [] ≡ ys ++ y ∷ [] = cc in absurd (not_empty ys y rest)
same_last (a ∷ xs) [] x y e = let rest : [] ≡ xs ++ x ∷ [] = cc in absurd (not_empty xs x rest)
same_last (a ∷ xs) (b ∷ ys) x y e = let rest : xs ++ x ∷ [] ≡ ys ++ y ∷ [] = cc in same_last xs ys x y rest

trapped_not_ended : (cause : TrapKind) → Stopped (Trapped cause) ≡ Ended → ⊥
trapped_not_ended cause e = absurd cc

same_cause : (a b : TrapKind) → Stopped (Trapped a) ≡ Stopped (Trapped b) → a ≡ b
same_cause a b e = cc

ok_differs : word.Ok ≡ word.OutOfSteps → ⊥
ok_differs e = absurd cc

failed_differs : word.Failed ≡ word.OutOfSteps → ⊥
failed_differs e = absurd cc

module _ (s : LinkedSet) (calls : List ListedCall) (steps : ℕ) where
  end_runs : (expected : Option Value) (c : Came) (w : Word) → HasCome s calls steps c → IsEndWord expected c w
      → Runs s calls steps (EndsWith expected) w
  end_runs expected (came.Ended value) w (over, ended, others, values) (inl (same, is)) =
      inr (over, inl ((ended, others, values ∙ ap (λ v. others ++ v ∷ []) same), is))
  end_runs expected (came.Ended value) w (over, ended, others, values) (inr (differs, is)) =
      inr (over, inr (λ right. differs (same_last others right.1 value expected (sym values ∙ right.2)), is))
  end_runs expected (came.Trapped cause) w (over, trapped, number, number_is, phase) is =
      inr (over, inr (λ right. trapped_not_ended cause (sym trapped ∙ right.0), is))
  end_runs expected came.TrappedBefore w (over, kind, trapped, phase) is =
      inr (over, inr (λ right. trapped_not_ended kind (sym trapped ∙ right.0), is))
  end_runs expected came.OutOfSteps w out is = inl (out.0, is)

  trap_runs : (before : ℕ) (cause : TrapKind) (c : Came) (w : Word) → suc before ≡ length calls → HasCome s calls steps c
      → IsTrapWord cause c w → Runs s calls steps (TrapsIn before cause) w
  trap_runs before cause (came.Ended value) w last (over, ended, others, values) is =
      inr (over, inr (λ right. trapped_not_ended cause (sym right.0 ∙ ended), is))
  trap_runs before cause (came.Trapped other) w last (over, trapped, number, number_is, phase) (inl (same, is)) =
      let e : number ≡ before = omega (arith, last, number_is) in
      inr (over, inl ((trapped ∙ ap (λ k. Stopped (Trapped k)) same, phase ∙ ap InCall e), is))
  trap_runs before cause (came.Trapped other) w last (over, trapped, number, number_is, phase) (inr (differs, is)) =
      inr (over, inr (λ right. differs (same_cause other cause (sym trapped ∙ right.0)), is))
  trap_runs before cause came.TrappedBefore w last (over, kind, trapped, other_phase) is =
      inr (over, inr (λ right. other_phase before last right.1, is))
  trap_runs before cause came.OutOfSteps w last out is = inl (out.0, is)

  -- out of steps is said of a long run alone
  end_timely : (expected : Option Value) (c : Came) (w : Word) → HasCome s calls steps c → IsEndWord expected c w → w ≡ word.OutOfSteps
      → IsLong s calls steps
  end_timely expected (came.Ended value) w come (inl (same, is)) out = absurd (ok_differs (sym is ∙ out))
  end_timely expected (came.Ended value) w come (inr (differs, is)) out = absurd (failed_differs (sym is ∙ out))
  end_timely expected came.OutOfSteps w come is out = come.1
  end_timely expected _ w come is out = absurd (failed_differs (sym is ∙ out))

  trap_timely : (cause : TrapKind) (c : Came) (w : Word) → HasCome s calls steps c → IsTrapWord cause c w → w ≡ word.OutOfSteps
      → IsLong s calls steps
  trap_timely cause (came.Trapped other) w come (inl (same, is)) out = absurd (ok_differs (sym is ∙ out))
  trap_timely cause (came.Trapped other) w come (inr (differs, is)) out = absurd (failed_differs (sym is ∙ out))
  trap_timely cause came.OutOfSteps w come is out = come.1
  trap_timely cause _ w come is out = absurd (failed_differs (sym is ∙ out))

-- one call more than those that are kept
one_more : (kept : List ListedCall) (call : ListedCall) → suc (length kept) ≡ length (kept ++ call ∷ [])
one_more kept call = omega (arith, length-append kept (call ∷ []))

module _ (stage : Stage) (call : script.Call) (steps : ℕ) where
  pub asserts_end : (expected : Option Value) (c : Came) (w : Word) (after : Setting) → after ≡ setting_of stage
      → HasRun stage call steps (Some c) → IsEndWord expected c w → Asserts (setting_of stage) call steps (EndsWith expected) w after
  asserts_end expected c w after same (fits, come) is =
      (same, inl (fits, end_runs (set_at (setting_of stage)) (calls_with (setting_of stage) call) steps expected c w come is))

  pub asserts_trap : (cause : TrapKind) (c : Came) (w : Word) (after : Setting) → after ≡ setting_of stage
      → HasRun stage call steps (Some c) → IsTrapWord cause c w
      → Asserts (setting_of stage) call steps (TrapsIn (length (setting_of stage).kept) cause) w after
  asserts_trap cause c w after same (fits, come) is =
      let before = length (setting_of stage).kept in
      let last : suc before ≡ length (calls_with (setting_of stage) call) = one_more (setting_of stage).kept _ in
      (same, inl (fits, trap_runs (set_at (setting_of stage)) (calls_with (setting_of stage) call) steps before cause c w last come is))

  pub timely_end : (expected : Option Value) (c : Came) (w : Word) → HasRun stage call steps (Some c) → IsEndWord expected c w
      → IsTimely steps (setting_of stage) (script.AssertReturn call expected) w
  timely_end expected c w run is out =
      end_timely (set_at (setting_of stage)) (calls_with (setting_of stage) call) steps expected c w run.1 is out

  pub timely_trap : (cause : TrapKind) (c : Came) (w : Word) → HasRun stage call steps (Some c) → IsTrapWord cause c w
      → IsTimely steps (setting_of stage) (script.AssertTrap call cause) w
  timely_trap cause c w run is out =
      trap_timely (set_at (setting_of stage)) (calls_with (setting_of stage) call) steps cause c w run.1 is out
