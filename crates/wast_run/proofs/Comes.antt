-- What the units of a set ran is what the modules of the set come to.
use Rattle.wast_run.proofs.Common.{◌≡◌, ℕ, suc, ◌≤◌, true, ◌≢◌, List, [], ◌∷◌, ◌++◌, map, length, Some, None, sym, refl, ap, ◌∙◌}
use Rattle.wast_run.proofs.Common.{subst, arith, Bor, AllByRecursion, Reply, TrapKind, LinkedSet, ListedCall, wasm_run, Program, SymbolCall}
use Rattle.wast_run.proofs.Common.{fits, CRun, c_run, IsAcceptedSet, IsListing, NeverStops, UnitsDoTheSame, program_of, symbol_call, Call}
use Rattle.wast_run.proofs.Common.{HasRan, came_in, symbol_of, symbols_of, EnoughStepsEndRuns, HasCome, IsLong, IsOver, RunsAreAlike}
use Rattle.wast_run.proofs.Common.{listed_call, listed_calls, modules_run, units_run, Came}
use Rattle.wasm_meaning.specs.Execution as exec
use Rattle.wasm_meaning.specs.Run as wasm
use Rattle.c_meaning.specs.State as state
use Rattle.c_meaning.specs.Run as c
use Rattle.alike.specs.Alike.{Alike, OutcomesAlike}
use Rattle.crun.specs.declared.outcome.Outcome.TheVariants as outcome
use Rattle.crun.specs.Engines.{place_of}
use Rattle.wast_run.specs.declared.session_runs.Ran.{Ran}
use Rattle.wast_run.specs.declared.session_runs.Ran.TheVariants as ran

-- ---- outcomes that are alike

ended_alike : (o : wasm.Outcome) → OutcomesAlike o c.Ended → o ≡ wasm.Ended
ended_alike wasm.Ended alike = refl
ended_alike (wasm.Stopped (exec.Trapped kind)) alike = absurd alike
ended_alike (wasm.Stopped _) alike = absurd alike

trapped_alike : (o : wasm.Outcome) (kind : TrapKind) → OutcomesAlike o (c.Stopped (state.Trapped kind))
    → o ≡ wasm.Stopped (exec.Trapped kind)
trapped_alike wasm.Ended kind alike = absurd alike
trapped_alike (wasm.Stopped (exec.Trapped other)) kind alike = ap (λ k. wasm.Stopped (exec.Trapped k)) alike
trapped_alike (wasm.Stopped exec.OutOfSteps) kind alike = absurd alike
trapped_alike (wasm.Stopped _) kind alike = absurd alike

-- a run that is out of steps is like no other
out_like_none : (o : c.Outcome) → OutcomesAlike (wasm.Stopped exec.OutOfSteps) o → ⊥
out_like_none (c.Stopped (state.Trapped kind)) alike = alike
out_like_none (c.Stopped (state.Undefined kind place)) alike = alike
out_like_none (c.Stopped state.Asks) alike = alike
out_like_none (c.Stopped state.Stuck) alike = alike
out_like_none _ alike = alike

none_like_out : (w : wasm.Outcome) → OutcomesAlike w c.OutOfSteps → ⊥
none_like_out wasm.Ended alike = alike
none_like_out (wasm.Stopped (exec.Trapped kind)) alike = alike
none_like_out (wasm.Stopped _) alike = alike

modules_not_out : (w : wasm.Outcome) (o : c.Outcome) → OutcomesAlike w o → w ≢ wasm.Stopped exec.OutOfSteps
modules_not_out w o alike is = out_like_none o (subst (λ w. OutcomesAlike w o) is alike)

units_not_out : (w : wasm.Outcome) (o : c.Outcome) → OutcomesAlike w o → o ≢ c.OutOfSteps
units_not_out w o alike is = none_like_out w (subst (OutcomesAlike w) is alike)

-- ---- the laws

pub runs_alike : UnitsDoTheSame
    → ((s : LinkedSet) (calls : List ListedCall) (replies : List Reply) (n m : ℕ) → n ≤ m
    → (wasm_run s calls n replies).outcome ≢ wasm.Stopped exec.OutOfSteps → wasm_run s calls m replies ≡ wasm_run s calls n replies)
    → RunsAreAlike
runs_alike same longer s accepted calls listing steps over =
    let back = (same s accepted).backward calls [] steps listing over in
    subst (λ w. Alike s w (units_run s calls steps))
    (sym (longer s calls [] back.0 steps back.1 (modules_not_out _ _ back.2.outcome))) back.2

pub enough_steps : UnitsDoTheSame
    → ((p : Program) (calls : List SymbolCall) (replies : List Reply) (n m : ℕ) → n ≤ m
    → (c_run p calls n replies).outcome ≢ c.OutOfSteps → c_run p calls m replies ≡ c_run p calls n replies)
    → EnoughStepsEndRuns
enough_steps same longer s accepted calls listing n steps ends most =
    let forth = (same s accepted).forward calls [] n listing ends in
    let over : (units_run s calls forth.0).outcome ≢ c.OutOfSteps = units_not_out _ _ forth.2.outcome in
    subst (λ (r : CRun). r.outcome ≢ c.OutOfSteps)
    (sym (longer (program_of s) (map symbol_call calls) [] forth.0 steps (omega (arith, forth.1, most)) over)) over

-- where the units are out of steps, the modules are with as few as that
pub is_long : EnoughStepsEndRuns → (s : LinkedSet) → IsAcceptedSet s → (calls : List ListedCall) → IsListing s calls → (steps : ℕ)
    → (units_run s calls steps).outcome ≡ c.OutOfSteps → IsLong s calls steps
is_long enough s accepted calls listing steps out = λ n most ends. enough s accepted calls listing n steps ends most out

-- ---- the calls by their symbols

pub symbols_are : (kept : List (Bor Call)) (last : Call)
    → symbols_of kept last ≡ map symbol_call (listed_calls kept ++ listed_call last ∷ [])
symbols_are [] last = refl
symbols_are (call ∷ kept) last = ap (λ cs. symbol_of call.now ∷ cs) (symbols_are kept last)

pub count_is : (kept : List (Bor Call)) (last : Call) → suc (length kept) ≡ length (listed_calls kept ++ listed_call last ∷ [])
count_is [] last = refl
count_is (call ∷ kept) last = ap suc (count_is kept last)

-- what the units ran
pub ran_by_set : (s : LinkedSet) (p : Program) → p ≡ program_of s → (kept : List (Bor Call)) (last : Call) (steps : ℕ) (r : Ran)
    → HasRan (c_run p (symbols_of kept last) steps []) (length kept) r
    → HasRan (units_run s (listed_calls kept ++ listed_call last ∷ []) steps) (length kept) r
ran_by_set s p is kept last steps r = subst (λ run. HasRan run (length kept) r) (λ i. c_run (is i) (symbols_are kept last i) steps [])

-- ---- what a run comes to

came_is : {a b : Came} → Some a ≡ Some b → a ≡ b
came_is e = cc

module _ (s : LinkedSet) (calls : List ListedCall) (steps count : ℕ) (counted : suc count ≡ length calls)
    (alike : IsOver s calls steps → Alike s (modules_run s calls steps) (units_run s calls steps))
    (long : (units_run s calls steps).outcome ≡ c.OutOfSteps → IsLong s calls steps) where
  ended_over : (units_run s calls steps).outcome ≡ c.Ended → IsOver s calls steps
  ended_over is out = absurd cc

  trapped_over : (kind : TrapKind) → (units_run s calls steps).outcome ≡ c.Stopped (state.Trapped kind) → IsOver s calls steps
  trapped_over kind is out = absurd cc

  module _ (is : (units_run s calls steps).outcome ≡ c.Ended) where
    both_ended : Alike s (modules_run s calls steps) (units_run s calls steps)
    both_ended = alike (ended_over is)

    modules_ended : (modules_run s calls steps).outcome ≡ wasm.Ended
    modules_ended = ended_alike _ (subst (OutcomesAlike (modules_run s calls steps).outcome) is both_ended.outcome)

  module _ (kind : TrapKind) (is : (units_run s calls steps).outcome ≡ c.Stopped (state.Trapped kind)) where
    both_trapped : Alike s (modules_run s calls steps) (units_run s calls steps)
    both_trapped = alike (trapped_over kind is)

    modules_trapped : (modules_run s calls steps).outcome ≡ wasm.Stopped (exec.Trapped kind)
    modules_trapped = trapped_alike _ kind (subst (OutcomesAlike (modules_run s calls steps).outcome) is both_trapped.outcome)

  pub has_come : (r : Ran) (what : Came) → came_in r ≡ Some what → HasRan (units_run s calls steps) count r → HasCome s calls steps what
  has_come (ran.Last (outcome.Ended value)) what e run_is =
      let end = run_is.is.end in
      let values = (both_ended end).values ∙ run_is.is.last in
      subst (HasCome s calls steps) (came_is e) (ended_over end, modules_ended end, run_is.is.others, values)
  has_come (ran.Last (outcome.Trapped kind)) what e run_is =
      let phase = (both_trapped kind run_is.is).phase ∙ run_is.at in
      subst (HasCome s calls steps) (came_is e) (trapped_over kind run_is.is, modules_trapped kind run_is.is, count, counted, phase)
  has_come (ran.Last outcome.OutOfSteps) what e run_is = subst (HasCome s calls steps) (came_is e) (run_is.is, long run_is.is)
  has_come (ran.Before (outcome.Trapped kind)) what e run_is = subst (HasCome s calls steps) (came_is e) (
    trapped_over kind run_is.is,
    kind,
    modules_trapped kind run_is.is,
    λ number last at. omega (arith, counted, last, run_is.before number (sym (both_trapped kind run_is.is).phase ∙ at)),
  )
  has_come (ran.Before outcome.OutOfSteps) what e run_is = subst (HasCome s calls steps) (came_is e) (run_is.is, long run_is.is)
  has_come _ what e run_is = absurd cc

  -- nothing undefined was done
  pub came_to_something : NeverStops (program_of s) s → IsListing s calls → (r : Ran) → HasRan (units_run s calls steps) count r
      → came_in r ≡ None → ⊥
  came_to_something never listing (ran.Last (outcome.Undefined u)) run_is e =
      never.never_undefined calls [] steps u.kind (place_of u) listing run_is.is
  came_to_something never listing (ran.Before (outcome.Ended value)) run_is e =
      let stop : None ≡ Some (outcome.Ended value) = run_is.stop in absurd cc
  came_to_something never listing (ran.Before (outcome.Undefined u)) run_is e =
      never.never_undefined calls [] steps u.kind (place_of u) listing run_is.is
  came_to_something never listing _ run_is e = absurd cc

-- ---- calls that fit

pub all_fit : (s : LinkedSet) → ((call : ListedCall) → wasm.Fits s call → fits (program_of s) (symbol_call call) ≡ true)
    → (calls : List ListedCall) → IsListing s calls → AllByRecursion (λ c. fits (program_of s) c ≡ true) (map symbol_call calls)
all_fit s fit [] listing = tt
all_fit s fit (call ∷ calls) (one, of_all) = (fit call one, all_fit s fit calls of_all)
