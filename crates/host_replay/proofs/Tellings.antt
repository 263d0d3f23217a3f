-- What a run tells more: asks that hosts answer as their functions' types say, asks without a reply, and ends of calls.
use Rattle.host_replay.proofs.Common.{◌≡◌, ℕ, zero, suc, Bool, true, false, List, [], ◌∷◌, ◌++◌, map, if◌then◌else◌, Some, None, Option}
use Rattle.host_replay.proofs.Common.{option_map, sym, refl, ap, ◌∙◌, subst, inl, inr, append_assoc, append-nil, AllByRecursion, all_append}
use Rattle.host_replay.proofs.Common.{Ask, Call, CallEnded, Event, Gave, HostTrapped, Init, Phase, Reply, Trail, asked, equal_types}
use Rattle.host_replay.proofs.Common.{is_result, types_of, FuncType, Value, machine_of, Program, SymbolCall, host_type, fresh, with_trail}
use Rattle.host_replay.proofs.Common.{Entry, Going, Over, Pending, Progress, after, begin_entry, begun, c_run, c_start, came_back}
use Rattle.host_replay.proofs.Common.{entries_of, go_on, run_of, told_end, Asks, CValue, Frame, Machine, Number, events_of}
use Rattle.w2c_base.specs.Run.{Asked}
use Rattle.c_meaning.specs.Step as step
use Rattle.c_sound.proofs.Trails.{give_keeps, there_or_not}
use Rattle.host_replay.proofs.Answering.{IsAnswered}
use Rattle.host_replay.proofs.AnyTrail.{Does, act_does, call_does, in_trail}

-- some events are told more
pub record TellsMore (p : Program) (before events : List Event) : Type 0 where
  pub more : List Event
  pub is : events ≡ before ++ more
  pub answered : AllByRecursion (IsAnswered p) more

module _ (p : Program) where
  pub nothing_more : (before events : List Event) → events ≡ before → TellsMore p before events
  nothing_more before events same = record { more = []; is = same ∙ sym (append-nil before); answered = tt }

  one_more : (before events : List Event) (e : Event) → events ≡ before ++ e ∷ [] → IsAnswered p e → TellsMore p before events
  one_more before events e is answered = record { more = e ∷ []; is = is; answered = (answered, tt) }

  more_on : (before middle events : List Event) → TellsMore p before middle → TellsMore p middle events → TellsMore p before events
  more_on before middle events h k = record {
    more = h.more ++ k.more;
    is = k.is ∙ ap (λ es. es ++ k.more) h.is ∙ append_assoc before h.more k.more;
    answered = all_append (IsAnswered p) h.more k.more h.answered k.answered;
  }

  -- ---- statements

  -- an ask is told, with a reply of the function's type or with none
  pub record TellsAsk (before events : List Event) (a : Ask) : Type 0 where
    pub reply : Option Reply
    pub is : events ≡ before ++ Asked a reply ∷ []
    pub answered : IsAnswered p (Asked a reply)

  pub replied_tells : (ty : FuncType) (replies : List Reply) (before : List Event) (a : Ask) (m : Machine) (below : List Frame)
      → host_type p a.host a.function ≡ Some ty → equal_types ty.params (types_of a.args) ≡ true
      → TellsAsk before (machine_of (step.replied ty replies before a m below)).trail.events a
  replied_tells ty [] before a m below is takes = record { reply = None; is = refl; answered = tt }
  replied_tells ty (HostTrapped ∷ replies) before a m below is takes = record {
    reply = Some HostTrapped;
    is = refl;
    answered = record { ty = ty; type_is = is; takes = takes; gives = tt };
  }
  replied_tells ty (Gave v ∷ replies) before a m below is takes = by (is_result ty.result v) refl
    where
      taken : Machine
      taken = with_trail m (asked before a (Some (Gave v)) replies)

      by : (b : Bool) → is_result ty.result v ≡ b → TellsAsk before (machine_of (
          if b then step.give taken (option_map Number v) below
          else step.Stops (with_trail m (asked before a None replies)) Asks)).trail.events a
      by true fits = record {
        reply = Some (Gave v);
        is = ap (λ t. t.events) (give_keeps taken (option_map Number v) below);
        answered = record { ty = ty; type_is = is; takes = takes; gives = fits };
      }
      by false fits = record { reply = None; is = refl; answered = tt }

  trail_of_step : (t : Trail) (o : step.Step) → (machine_of (in_trail t o)).trail ≡ t
  trail_of_step t (step.Next s) = refl
  trail_of_step t _ = refl

  does_tells : (does : Trail → step.Step) → Does p does → (t : Trail) → TellsMore p t.events (machine_of (does t)).trail.events
  does_tells does (inl h) t = nothing_more t.events (machine_of (does t)).trail.events
      (ap (λ o. (machine_of o).trail.events) (h.1 t) ∙ ap (λ t. t.events) (trail_of_step t h.0))
  does_tells does (inr h) t =
      let told = replied_tells h.ty t.replies t.events h.ask (with_trail h.machine t) h.below h.type_is h.takes in
      one_more t.events (machine_of (does t)).trail.events (Asked h.ask told.reply)
      (ap (λ o. (machine_of o).trail.events) (h.is t) ∙ told.is) told.answered

  -- ---- runs

  pub begun_tells : (pending : Pending) (o : step.Step) → TellsMore p (machine_of o).trail.events (events_of (begun pending o))
  begun_tells pending (step.Next s) = nothing_more s.machine.trail.events s.machine.trail.events refl
  begun_tells pending (step.Back m value) = nothing_more m.trail.events m.trail.events refl
  begun_tells pending (step.Stops m why) = nothing_more m.trail.events m.trail.events refl

  entry_tells : (m : Machine) (last : Phase) (entries : List Entry) → TellsMore p m.trail.events (events_of (begin_entry p m last entries))
  entry_tells m last [] = nothing_more m.trail.events m.trail.events refl
  entry_tells m last (e ∷ entries) =
      let pending : Pending = record { phase = e.phase; entries = entries } in
      there_or_not (λ x. TellsMore p m.trail.events (events_of x)) e.func (nothing_more m.trail.events m.trail.events refl) (λ f.
      let o : step.Step = step.call p f m (map Number e.args) [] in
      more_on m.trail.events (machine_of o).trail.events (events_of (begun pending o))
      (does_tells (λ t. step.call p f (with_trail m t) (map Number e.args) []) (call_does p f m (map Number e.args) []) m.trail)
      (begun_tells pending o))

  ended_tells : (m : Machine) (value : Option Value) (last : Phase) (entries : List Entry)
      → TellsMore p m.trail.events (events_of (begin_entry p (told_end m value) last entries))
  ended_tells m value last entries =
      more_on m.trail.events (told_end m value).trail.events (events_of (begin_entry p (told_end m value) last entries))
      (one_more m.trail.events (told_end m value).trail.events (CallEnded value) refl tt) (entry_tells (told_end m value) last entries)

  back_tells : (pending : Pending) (m : Machine) (phase : Phase) (value : Option CValue)
      → TellsMore p m.trail.events (events_of (came_back p pending m phase value))
  back_tells pending m (Init k) None = entry_tells m (Init k) pending.entries
  back_tells pending m (Call k) None = ended_tells m None (Call k) pending.entries
  back_tells pending m (Call k) (Some (Number v)) = ended_tells m (Some v) (Call k) pending.entries
  back_tells pending m _ (Some _) = nothing_more m.trail.events m.trail.events refl

  pub on_tells : (pending : Pending) (o : step.Step) → TellsMore p (machine_of o).trail.events (events_of (go_on p pending o))
  on_tells pending (step.Next s) = nothing_more s.machine.trail.events s.machine.trail.events refl
  on_tells pending (step.Back m value) = back_tells pending m pending.phase value
  on_tells pending (step.Stops m why) = nothing_more m.trail.events m.trail.events refl

  pub after_tells : (n : ℕ) (x : Progress) → TellsMore p (events_of x) (run_of (after p n x)).events
  after_tells zero (Going pending s) = nothing_more s.machine.trail.events s.machine.trail.events refl
  after_tells zero (Over run) = nothing_more run.events run.events refl
  after_tells (suc n) (Over run) = nothing_more run.events run.events refl
  after_tells (suc n) (Going pending s) =
      let o : step.Step = step.c_step p s in
      let before = s.machine.trail.events in
      let now : Progress = go_on p pending o in
      let events = (run_of (after p n now)).events in
      more_on before (machine_of o).trail.events events
      (does_tells (λ t. step.act p (with_trail s.machine t) s.running s.running.rest s.below)
      (act_does p s.machine s.running s.running.rest s.below) s.machine.trail)
      (more_on (machine_of o).trail.events (events_of now) events (on_tells pending o) (after_tells n now))

  -- each ask of a run that has a reply is answered
  pub run_answered : (calls : List SymbolCall) (n : ℕ) (replies : List Reply)
      → AllByRecursion (IsAnswered p) (c_run p calls n replies).events
  run_answered calls n replies =
      let start = entry_tells (fresh p replies) (Init 0) (entries_of p calls) in
      let all = more_on [] (events_of (c_start p calls replies)) (c_run p calls n replies).events start
      (after_tells n (c_start p calls replies)) in
      subst (AllByRecursion (IsAnswered p)) (sym all.is) all.answered
