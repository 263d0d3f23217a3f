-- Two runs of one program whose hosts reply the same so many times.
use Rattle.host_replay.proofs.Common.{◌≡◌, ℕ, zero, suc, ◌+◌, Bool, true, false, ◌⊎◌, List, [], ◌∷◌, ◌++◌, map, length, if◌then◌else◌, Some}
use Rattle.host_replay.proofs.Common.{None, Option, option_map, sym, refl, ap, ◌∙◌, subst, inl, inr, append_assoc, arith, Ask, Call}
use Rattle.host_replay.proofs.Common.{CallEnded, Event, Gave, HostTrapped, Init, Phase, Reply, Trail, asked, asks_in, equal_types}
use Rattle.host_replay.proofs.Common.{is_result, types_of, FuncType, Value, machine_of, Program, SymbolCall, host_type, fresh, with_trail}
use Rattle.host_replay.proofs.Common.{CRun, Entry, Going, Over, Pending, Progress, Stopped, after, begin_entry, begun, c_run, c_start}
use Rattle.host_replay.proofs.Common.{came_back, entries_of, go_on, over, run_of, Asks, CValue, Frame, FuncAddress, Machine, Number, State}
use Rattle.host_replay.proofs.Common.{Stuck, Trapped, events_of}
use Rattle.w2c_base.specs.Run.{Asked}
use Rattle.w2c_base.specs.declared.trap.TrapKind.TheVariants.{HostTrap}
use Rattle.c_meaning.specs.Step as step
use Rattle.host_replay.proofs.Parting.{PartAt}
use Rattle.host_replay.proofs.AnyTrail.{Does, Free, act_does, call_does, give_free, in_trail}
use Rattle.host_replay.proofs.Tellings.{TellsMore, after_tells, begun_tells, on_tells, replied_tells}

asks_more : (told : List Event) (a : Ask) (reply : Option Reply)
    → length (asks_in (told ++ Asked a reply ∷ [])) ≡ suc (length (asks_in told))
asks_more [] a reply = refl
asks_more (Asked b other ∷ told) a reply = ap suc (asks_more told a reply)
asks_more (CallEnded value ∷ told) a reply = asks_more told a reply

asks_kept : (told : List Event) (value : Option Value) → length (asks_in (told ++ CallEnded value ∷ [])) ≡ length (asks_in told)
asks_kept [] value = refl
asks_kept (Asked b other ∷ told) value = ap suc (asks_kept told value)
asks_kept (CallEnded other ∷ told) value = asks_kept told value

-- what was told, and replies still to come
abbrev trail : List Event → List Reply → Trail
trail told replies = record { replies = replies; events = told }

abbrev state_in : Trail → State → State
state_in t s = record { machine = with_trail s.machine t; running = s.running; below = s.below }

-- both are on their way, and the same replies are still to come before others
record BothGo (rest others : List Reply) (n : ℕ) (x y : Progress) : Type 0 where
  pending : Pending
  state : State
  told : List Event
  front : List Reply
  so_many : length (asks_in told) + length front ≡ n
  x_is : x ≡ Going pending (state_in (trail told (front ++ rest)) state)
  y_is : y ≡ Going pending (state_in (trail told (front ++ others)) state)

-- both are over, and the same run
record BothOver (x y : Progress) : Type 0 where
  run : CRun
  x_is : x ≡ Over run
  y_is : y ≡ Over run

module _ (p : Program) (rest others : List Reply) (n : ℕ) where
  abbrev Beside : Progress → Progress → Type 0
  Beside x y = BothGo rest others n x y ⊎ (BothOver x y ⊎ PartAt n (events_of x) (events_of y))

  abbrev Left : List Event → List Reply → Trail
  Left told front = trail told (front ++ rest)

  abbrev Right : List Event → List Reply → Trail
  Right told front = trail told (front ++ others)

  -- so many asks and replies to come
  abbrev SoMany : List Event → List Reply → Type 0
  SoMany told front = length (asks_in told) + length front ≡ n

  both_over : (run : CRun) → Beside (Over run) (Over run)
  both_over run = inr (inl (record { run = run; x_is = refl; y_is = refl }))

  both_go : (pending : Pending) (s : State) (told : List Event) (front : List Reply) → SoMany told front
      → Beside (Going pending (state_in (Left told front) s)) (Going pending (state_in (Right told front) s))
  both_go pending s told front so = inl (record {
    pending = pending;
    state = s;
    told = told;
    front = front;
    so_many = so;
    x_is = refl;
    y_is = refl;
  })

  -- ---- a step, whatever is made of it

  module _ (then_ : step.Step → Progress)
      (in_both : (o : step.Step) (told : List Event) (front : List Reply) → SoMany told front
      → Beside (then_ (in_trail (Left told front) o)) (then_ (in_trail (Right told front) o)))
      (tells : (o : step.Step) → TellsMore p (machine_of o).trail.events (events_of (then_ o))) where
    free_beside : (does : Trail → step.Step) → Free does → (told : List Event) (front : List Reply) → SoMany told front
        → Beside (then_ (does (Left told front))) (then_ (does (Right told front)))
    free_beside does h told front so = rw (h.1 (Left told front)) (rw (h.1 (Right told front)) (in_both h.0 told front so))

    -- the same is asked, with other replies
    parted : (ty : FuncType) (told : List Event) (a : Ask) (m m' : Machine) (below : List Frame)
        → host_type p a.host a.function ≡ Some ty → equal_types ty.params (types_of a.args) ≡ true → length (asks_in told) ≡ n
        → PartAt n (events_of (then_ (step.replied ty rest told a m below))) (events_of (then_ (step.replied ty others told a m' below)))
    parted ty told a m m' below is takes so =
        let one = replied_tells p ty rest told a m below is takes in
        let other = replied_tells p ty others told a m' below is takes in
        let more = tells (step.replied ty rest told a m below) in
        let more' = tells (step.replied ty others told a m' below) in
        record {
          front = told;
          so_many = so;
          ask = a;
          reply = one.reply;
          other = other.reply;
          rest = more.more;
          rest' = more'.more;
          events_are = more.is ∙ ap (λ es. es ++ more.more) one.is ∙ append_assoc told (Asked a one.reply ∷ []) more.more;
          others_are = more'.is ∙ ap (λ es. es ++ more'.more) other.is ∙ append_assoc told (Asked a other.reply ∷ []) more'.more;
        }

    replied_beside : (ty : FuncType) (told : List Event) (front : List Reply) → SoMany told front → (a : Ask) (m : Machine)
        (below : List Frame) → host_type p a.host a.function ≡ Some ty → equal_types ty.params (types_of a.args) ≡ true
        → Beside (then_ (step.replied ty (front ++ rest) told a (with_trail m (Left told front)) below))
        (then_ (step.replied ty (front ++ others) told a (with_trail m (Right told front)) below))
    replied_beside ty told [] so a m below is takes =
        inr (inr (parted ty told a (with_trail m (Left told [])) (with_trail m (Right told []))
        below is takes (omega (arith, so))))
    replied_beside ty told (HostTrapped ∷ front) so a m below is takes =
        in_both (step.Stops m (Trapped HostTrap)) (told ++ Asked a (Some HostTrapped) ∷ []) front
        (omega (arith, so, asks_more told a (Some HostTrapped)))
    replied_beside ty told (Gave v ∷ front) so a m below is takes = by (is_result ty.result v)
      where
        by : (b : Bool) → Beside
            (then_ (if b then step.give (with_trail m (asked told a (Some (Gave v)) (front ++ rest))) (option_map Number v) below
            else step.Stops (with_trail m (asked told a None (front ++ rest))) Asks))
            (then_ (if b then step.give (with_trail m (asked told a (Some (Gave v)) (front ++ others))) (option_map Number v) below
            else step.Stops (with_trail m (asked told a None (front ++ others))) Asks))
        by true = free_beside (λ t. step.give (with_trail m t) (option_map Number v) below) (give_free m (option_map Number v) below)
            (told ++ Asked a (Some (Gave v)) ∷ []) front (omega (arith, so, asks_more told a (Some (Gave v))))
        by false = in_both (step.Stops m Asks) (told ++ Asked a None ∷ []) front (omega (arith, so, asks_more told a None))

    does_beside : (does : Trail → step.Step) → Does p does → (told : List Event) (front : List Reply) → SoMany told front
        → Beside (then_ (does (Left told front))) (then_ (does (Right told front)))
    does_beside does (inl h) told front so = free_beside does h told front so
    does_beside does (inr h) told front so =
        subst (λ o. Beside (then_ o) (then_ (does (Right told front)))) (sym (h.is (Left told front)))
        (rw (h.is (Right told front)) (replied_beside h.ty told front so h.ask h.machine h.below h.type_is h.takes))

  -- ---- runs

  begun_in_both : (pending : Pending) (o : step.Step) (told : List Event) (front : List Reply) → SoMany told front
      → Beside (begun pending (in_trail (Left told front) o)) (begun pending (in_trail (Right told front) o))
  begun_in_both pending (step.Next s) told front so = both_go pending s told front so
  begun_in_both pending _ told front so = both_over _

  entry_beside : (m : Machine) (last : Phase) (entries : List Entry) (told : List Event) (front : List Reply) → SoMany told front
      → Beside (begin_entry p (with_trail m (Left told front)) last entries) (begin_entry p (with_trail m (Right told front)) last entries)
  entry_beside m last [] told front so = both_over _
  entry_beside m last (e ∷ entries) told front so = by e.func
    where
      pending : Pending
      pending = record { phase = e.phase; entries = entries }

      by : (f : Option FuncAddress) → Beside
          (elim f [
            | None ↦ Over (over pending (with_trail m (Left told front)) (Stopped Stuck))
            | Some f ↦ begun pending (step.call p f (with_trail m (Left told front)) (map Number e.args) [])
          ])
          (elim f [
            | None ↦ Over (over pending (with_trail m (Right told front)) (Stopped Stuck))
            | Some f ↦ begun pending (step.call p f (with_trail m (Right told front)) (map Number e.args) [])
          ])
      by None = both_over _
      by (Some f) = does_beside (begun pending) (begun_in_both pending) (begun_tells p pending)
          (λ t. step.call p f (with_trail m t) (map Number e.args) []) (call_does p f m (map Number e.args) []) told front so

  back_beside : (pending : Pending) (m : Machine) (phase : Phase) (value : Option CValue) (told : List Event) (front : List Reply)
      → SoMany told front
      → Beside (came_back p pending (with_trail m (Left told front)) phase value)
      (came_back p pending (with_trail m (Right told front)) phase value)
  back_beside pending m (Init k) None told front so = entry_beside m (Init k) pending.entries told front so
  back_beside pending m (Call k) None told front so = entry_beside m (Call k) pending.entries (told ++ CallEnded None ∷ []) front
      (omega (arith, so, asks_kept told None))
  back_beside pending m (Call k) (Some (Number v)) told front so =
      entry_beside m (Call k) pending.entries (told ++ CallEnded (Some v) ∷ []) front (omega (arith, so, asks_kept told (Some v)))
  back_beside pending m _ _ told front so = both_over _

  on_in_both : (pending : Pending) (o : step.Step) (told : List Event) (front : List Reply) → SoMany told front
      → Beside (go_on p pending (in_trail (Left told front) o)) (go_on p pending (in_trail (Right told front) o))
  on_in_both pending (step.Next s) told front so = both_go pending s told front so
  on_in_both pending (step.Back m value) told front so = back_beside pending m pending.phase value told front so
  on_in_both pending (step.Stops m why) told front so = both_over _

  -- what the runs are in the end
  abbrev EndBeside : ℕ → Progress → Progress → Type 0
  EndBeside k x y = (run_of (after p k x) ≡ run_of (after p k y)) ⊎ PartAt n (run_of (after p k x)).events (run_of (after p k y)).events

  still_parted : (k : ℕ) (x y : Progress) → PartAt n (events_of x) (events_of y) → EndBeside k x y
  still_parted k x y h =
      let more = after_tells p k x in
      let more' = after_tells p k y in
      inr (record {
        front = h.front;
        so_many = h.so_many;
        ask = h.ask;
        reply = h.reply;
        other = h.other;
        rest = h.rest ++ more.more;
        rest' = h.rest' ++ more'.more;
        events_are = more.is ∙ ap (λ es. es ++ more.more) h.events_are ∙ append_assoc h.front (Asked h.ask h.reply ∷ h.rest) more.more;
        others_are = more'.is ∙ ap (λ es. es ++ more'.more) h.others_are ∙ append_assoc h.front (Asked h.ask h.other ∷ h.rest') more'.more;
      })

  after_beside : (k : ℕ) (x y : Progress) → Beside x y → EndBeside k x y
  after_beside k x y (inr (inl h)) =
      inl (ap (λ z. run_of (after p k z)) (h.x_is ∙ sym h.y_is))
  after_beside k x y (inr (inr h)) = still_parted k x y h
  after_beside zero x y (inl h) = inl (ap run_of h.x_is ∙ sym (ap run_of h.y_is))
  after_beside (suc k) x y (inl h) =
      subst (λ x. EndBeside (suc k) x y) (sym h.x_is)
      (subst (λ y. EndBeside (suc k) (Going h.pending (state_in (Left h.told h.front) h.state)) y) (sym h.y_is)
      (after_beside k _ _ (does_beside (go_on p h.pending) (on_in_both h.pending) (on_tells p h.pending)
      (λ t. step.act p (with_trail h.state.machine t) h.state.running h.state.running.rest h.state.below)
      (act_does p h.state.machine h.state.running h.state.running.rest h.state.below) h.told h.front h.so_many)))

pub runs_beside : (p : Program) (calls : List SymbolCall) (k : ℕ) (front rest others : List Reply)
    → (c_run p calls k (front ++ rest) ≡ c_run p calls k (front ++ others))
    ⊎ PartAt (length front) (c_run p calls k (front ++ rest)).events (c_run p calls k (front ++ others)).events
runs_beside p calls k front rest others =
    after_beside p rest others (length front) k (c_start p calls (front ++ rest)) (c_start p calls (front ++ others))
    (entry_beside p rest others (length front) (fresh p []) (Init 0) (entries_of p calls) [] front (omega arith))
