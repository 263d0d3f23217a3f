-- A call behind those that have ended, as the run of all of them.
use Rattle.crun.proofs.Common.{◌≡◌, ℕ, ◌+◌, ◌-◌, ◌≤◌, List, [], ◌∷◌, ◌++◌, map, length, Option, sym, refl, ap, ◌∙◌, subst, arith}
use Rattle.crun.proofs.Common.{length-append, append_cancel_left, values_behind, Ask, Call, CallEnded, Event, Phase, Reply, asks_in}
use Rattle.crun.proofs.Common.{values_in, Value, Program, SymbolCall, Entry, Pending, after, begun, c_run, entries_of, Number, UnitFunc}
use Rattle.crun.proofs.Common.{call, item_name, ask_of, events_in, replies_in, Asks, trail_before, trail_behind, HostModule, Asked, Came}
use Rattle.crun.proofs.Common.{SameProgram, machine_at, naming_in, program_in, units_at, BehindAt, IsOutcome, Stands, standing_of, told_by}
use Rattle.crun.proofs.Common.{Engine, Outcome, Standing}
use Rattle.crun.specs.declared.outcome.Outcome.TheVariants as outcome
use Rattle.crun.specs.declared.outcome.Standing.TheVariants as standing
use Rattle.crun.specs.Sessions.{state_of, IsLast, State, SymbolCame, SymbolCamePart}
use Rattle.crun.proofs.Functions.{same_program}
use Rattle.crun.proofs.History.{
  all_ended,
  call_ended,
  entries_around,
  entries_push,
  entry_of,
  out_of_steps,
  still_going,
  trapped,
  undefined,
  value_last,
  values_more,
}

module _ {H : Type 0} (m : HostModule H) (old new : Engine H) (steps : ℕ) (fewer : old.left ≤ steps) (less : new.left ≤ old.left)
    (c : SymbolCall)
    (asks : List Asked) (asked : Asks m old.hosts.list.items old.hosts.journal asks new.hosts.list.items new.hosts.journal) where
  abbrev p : Program
  p = program_in m old

  counted : (steps - old.left) + (old.left - new.left) ≡ steps - new.left
  counted = omega (arith, fewer, less)

  within : (steps - old.left) + (old.left - new.left) ≤ steps
  within = omega (arith, fewer, less)

  module _ (o : Outcome) (came : SymbolCame m old c asks o (old.left - new.left) new) (calls : List SymbolCall) (last : Phase)
      (told : List Event)
      (behind : BehindAt p old.depth (units_at old) old.hosts.journal (steps - old.left) (entries_of p calls) last told) where
    abbrev x : Entry
    x = entry_of p (length calls, c)

    came_out : (more : List Entry) (later : List Reply)
        → Came p (record { phase = x.phase; entries = more }) (machine_at new) (trail_behind asks later told) o
        (after p (old.left - new.left) (begun (record { phase = x.phase; entries = more })
        (call p (UnitFunc came.unit (item_name (naming_in old) came.unit came.item)) (machine_at old (trail_before asks later told))
        (map Number c.args) [])))
    came_out more later = came.came (record { phase = x.phase; entries = more }) later told

    -- the call that ended is behind
    pub ended_behind : (value : _) → o ≡ outcome.Ended value
        → BehindAt p new.depth (units_at new) new.hosts.journal (steps - new.left) (entries_of p (calls ++ c ∷ [])) (Call (length calls))
        ((told ++ events_in asks) ++ CallEnded value ∷ [])
    ended_behind value is =
        let one = call_ended p old.depth (units_at old) old.hosts.journal (steps - old.left) (entries_of p calls) last told behind x
        (UnitFunc came.unit (item_name (naming_in old) came.unit came.item)) came.called new.depth (units_at new) asks (old.left - new.left)
        (length calls) value refl (λ more later. rw is at (came_out more later)) in
        subst (λ es. BehindAt p new.depth (units_at new) new.hosts.journal (steps - new.left) es (Call (length calls))
        ((told ++ events_in asks) ++ CallEnded value ∷ [])) (sym (entries_push p calls c))
        (subst (λ n. BehindAt p new.depth (units_at new) new.hosts.journal n (entries_of p calls ++ x ∷ []) (Call (length calls))
        ((told ++ events_in asks) ++ CallEnded value ∷ [])) counted (rw asked.written one))

    -- the run with the call more came to this
    pub call_came : (o ≡ outcome.OutOfSteps → new.left ≡ 0) → (rest : List SymbolCall) → IsLast o rest
        → IsOutcome o (Call (length calls)) new.hosts.journal (told_by told asks o) (units_at new)
        (c_run p (calls ++ c ∷ rest) steps (replies_in new.hosts.journal))
    call_came spent rest last_one = go o came_out ended_behind spent last_one
      where
        around : (more : List Entry) × (entries_of p (calls ++ c ∷ rest) ≡ entries_of p calls ++ x ∷ more)
        around = entries_around p calls c rest

        Out : Outcome → Type 0
        Out o = (more : List Entry) (later : List Reply)
            → Came p (record { phase = x.phase; entries = more }) (machine_at new) (trail_behind asks later told) o
            (after p (old.left - new.left) (begun (record { phase = x.phase; entries = more })
            (call p (UnitFunc came.unit (item_name (naming_in old) came.unit came.item)) (machine_at old (trail_before asks later told))
            (map Number c.args) [])))

        Here : Outcome → List Asked → Type 0
        Here o journal = IsOutcome o (Call (length calls)) journal (told_by told asks o) (units_at new)
            (c_run p (calls ++ c ∷ rest) steps (replies_in journal))

        written : (o : Outcome) → Here o (old.hosts.journal ++ asks) → Here o new.hosts.journal
        written o h = subst (Here o) (sym asked.written) h

        go : (o : Outcome) → Out o → ((value : _) → o ≡ outcome.Ended value
            → BehindAt p new.depth (units_at new) new.hosts.journal (steps - new.left) (entries_of p (calls ++ c ∷ []))
            (Call (length calls))
            ((told ++ events_in asks) ++ CallEnded value ∷ [])) → (o ≡ outcome.OutOfSteps → new.left ≡ 0) → IsLast o rest
            → Here o new.hosts.journal
        go (outcome.Ended value) out ended spent last_one =
            subst (λ rest. IsOutcome (outcome.Ended value) (Call (length calls)) new.hosts.journal
            (told_by told asks (outcome.Ended value)) (units_at new)
            (c_run p (calls ++ c ∷ rest) steps (replies_in new.hosts.journal))) (sym last_one)
            (all_ended p new.depth (units_at new) new.hosts.journal (steps - new.left) (calls ++ c ∷ []) (Call (length calls))
            ((told ++ events_in asks) ++ CallEnded value ∷ []) value (ended value refl) (value_last told asks value) steps (omega arith))
        go (outcome.Trapped kind) out ended spent last_one = written (outcome.Trapped kind)
            (trapped p old.depth (units_at old) old.hosts.journal (steps - old.left) (entries_of p calls) last told behind x
            (UnitFunc came.unit (item_name (naming_in old) came.unit came.item)) came.called new.depth (units_at new) asks
            (old.left - new.left)
            (calls ++ c ∷ rest) around.0 around.1 steps within kind out)
        go (outcome.Undefined u) out ended spent last_one = written (outcome.Undefined u)
            (undefined p old.depth (units_at old) old.hosts.journal (steps - old.left) (entries_of p calls) last told behind x
            (UnitFunc came.unit (item_name (naming_in old) came.unit came.item)) came.called new.depth (units_at new) asks
            (old.left - new.left)
            (calls ++ c ∷ rest) around.0 around.1 steps within u out)
        go outcome.OutOfSteps out ended spent last_one =
            let none : new.left ≡ 0 = spent refl in
            let all : (steps - old.left) + (old.left - new.left) ≡ steps = omega (arith, fewer, less, none) in
            written outcome.OutOfSteps
            (out_of_steps p old.depth (units_at old) old.hosts.journal (steps - old.left) (entries_of p calls) last told behind x
            (UnitFunc came.unit (item_name (naming_in old) came.unit came.item)) came.called new.depth (units_at new) asks
            (old.left - new.left)
            (calls ++ c ∷ rest) around.0 around.1 steps within all out)

  -- want of memory in the call: what was asked is a beginning of what the run asks
  pub call_part : SymbolCamePart m old c asks old.left → (calls : List SymbolCall) (last : Phase) (told : List Event)
      → BehindAt p old.depth (units_at old) old.hosts.journal (steps - old.left) (entries_of p calls) last told → (rest : List SymbolCall)
      → (more : List Ask) × (asks_in (c_run p (calls ++ c ∷ rest) steps (replies_in new.hosts.journal)).events
      ≡ map ask_of new.hosts.journal ++ more)
  call_part part calls last told behind rest =
      let x : Entry = entry_of p (length calls, c) in
      let around = entries_around p calls c rest in
      let pending : Pending = record { phase = Call (length calls); entries = around.0 } in
      let came = part.came pending [] told in
      let most : came.0 ≤ old.left = came.1 in
      let enough : (steps - old.left) + came.0 ≤ steps = omega (arith, fewer, most) in
      subst (λ j. (more : List Ask) × (asks_in (c_run p (calls ++ c ∷ rest) steps (replies_in j)).events ≡ map ask_of j ++ more))
      (sym asked.written)
      (still_going p old.depth (units_at old) old.hosts.journal (steps - old.left) (entries_of p calls) last told behind x
      (UnitFunc part.unit (item_name (naming_in old) part.unit part.item)) part.called old.depth (units_at old) asks came.0
      (calls ++ c ∷ rest) around.0 around.1 steps enough pending came.2 came.3 came.4)

-- ---- as a session says it

module _ {H : Type 0} (m : HostModule H) (old new : Engine H) (steps inits : ℕ) (was : Standing) (less : new.left ≤ old.left)
    (c : SymbolCall)
    (asks : List Asked) (asked : Asks m old.hosts.list.items old.hosts.journal asks new.hosts.list.items new.hosts.journal) where
  abbrev before : State H
  before = state_of old steps inits was

  same_asks : (others : List Asked) → new.hosts.journal ≡ old.hosts.journal ++ others → asks ≡ others
  same_asks others is = append_cancel_left old.hosts.journal asks others (sym asked.written ∙ is)

  pub call_ran : (o : Outcome) → SymbolCame m old c asks o (old.left - new.left) new → (o ≡ outcome.OutOfSteps → new.left ≡ 0)
      → (calls rest : List SymbolCall) (told : List Event) (others : List Asked) → Stands m before calls told
      → new.hosts.journal ≡ old.hosts.journal ++ others → IsLast o rest
      → IsOutcome o (Call (length calls)) new.hosts.journal (told_by told others o) (units_at new)
      (c_run (program_in m old) (calls ++ c ∷ rest) steps (replies_in new.hosts.journal))
  call_ran o came spent calls rest told others stands is last_one =
      subst (λ a. IsOutcome o (Call (length calls)) new.hosts.journal (told_by told a o) (units_at new)
      (c_run (program_in m old) (calls ++ c ∷ rest) steps (replies_in new.hosts.journal))) (same_asks others is)
      (call_came m old new steps stands.fewer less c asks asked o came calls stands.last told stands.behind spent rest last_one)

  -- as many values were told as there are calls
  one_value_more : (value : Option Value) (calls : List SymbolCall) (told : List Event) → length (values_in told) ≡ length calls
      → length (values_in ((told ++ events_in asks) ++ CallEnded value ∷ [])) ≡ length (calls ++ c ∷ [])
  one_value_more value calls told same =
      ap length (values_behind (told ++ events_in asks) (CallEnded value ∷ []) ∙ ap (λ vs. vs ++ value ∷ []) (values_more told asks))
      ∙ length-append (values_in told) (value ∷ []) ∙ ap (λ n. n + 1) same ∙ sym (length-append calls (c ∷ []))

  pub call_stands : (o : Outcome) → SymbolCame m old c asks o (old.left - new.left) new → SameProgram m old new
      → (now : Standing) → now ≡ standing_of o → now ≡ standing.Ready → (calls : List SymbolCall) (told : List Event) (others : List Asked)
      → Stands m before calls told → new.hosts.journal ≡ old.hosts.journal ++ others
      → Stands m (state_of new steps inits now) (calls ++ c ∷ []) (told_by told others o)
  call_stands (outcome.Ended value) came same now now_is ready calls told others stands is =
      subst (λ a. Stands m (state_of new steps inits now) (calls ++ c ∷ []) (told_by told a (outcome.Ended value))) (same_asks others is)
      (record {
        ready = ready;
        fewer = let fewer = stands.fewer in omega (arith, fewer, less);
        last = Call (length calls);
        values = one_value_more value calls told stands.values;
        behind = subst (λ p. BehindAt p new.depth (units_at new) new.hosts.journal (steps - new.left) (entries_of p (calls ++ c ∷ []))
            (Call (length calls)) ((told ++ events_in asks) ++ CallEnded value ∷ [])) (sym (same_program m old new same))
            (ended_behind m old new steps stands.fewer less c asks asked (outcome.Ended value) came calls stands.last told stands.behind
            value refl);
      })
  call_stands o came same now now_is ready calls told others stands is =
      absurd (let no : standing_of o ≡ standing.Ready = sym now_is ∙ ready in cc)

  pub call_asked : SymbolCamePart m old c asks old.left → (calls rest : List SymbolCall) (told : List Event) → Stands m before calls told
      → (more : List Ask) × (asks_in (c_run (program_in m old) (calls ++ c ∷ rest) steps (replies_in new.hosts.journal)).events
      ≡ map ask_of new.hosts.journal ++ more)
  call_asked part calls rest told stands =
      call_part m old new steps stands.fewer less c asks asked part calls stands.last told stands.behind rest
