-- A run whose hosts reply again what another run was replied asks the same as that one.
use Rattle.host_replay.proofs.Common.{◌≡◌, ℕ, suc, ◌⊎◌, List, [], ◌∷◌, ◌++◌, length, Option, sym, refl, ap, ◌∙◌, subst, inl, inr}
use Rattle.host_replay.proofs.Common.{append_assoc, arith, length-map, map-append, Ask, CallEnded, Event, Host, Reply, asks_in, Program}
use Rattle.host_replay.proofs.Common.{SymbolCall, CRun, c_run, Answered, hosts_of, ask_of, event_in, events_in, replies_in, reply_in}
use Rattle.host_replay.proofs.Common.{HostModule, Asked, AreReplays, replaying, Replays, IsAnsweredRun, asked_events, program_with}
use Rattle.host_replay.proofs.Common.{run_with, Recorded, ReplayHost}
use Rattle.w2c_base.specs.Run as run
use Rattle.c_tree.specs.Tree as tree
use Rattle.host_replay.proofs.Given.{hosts_same}
use Rattle.host_replay.proofs.Beside.{runs_beside}
use Rattle.host_replay.proofs.Parting.{PartAt}
use Rattle.host_replay.proofs.Used.{AreAt, one_answer}
use Rattle.host_replay.proofs.Verdicts.{reply_same}

pub asked-append : (events more : List Event) → asked_events (events ++ more) ≡ asked_events events ++ asked_events more
asked-append [] more = refl
asked-append (run.Asked ask reply ∷ events) more = ap (λ es. run.Asked ask reply ∷ es) (asked-append events more)
asked-append (CallEnded value ∷ events) more = asked-append events more

asked_many : (events : List Event) → length (asked_events events) ≡ length (asks_in events)
asked_many [] = refl
asked_many (run.Asked ask reply ∷ events) = ap suc (asked_many events)
asked_many (CallEnded value ∷ events) = asked_many events

behind_as_many : {A : Type 0} (xs ys us vs : List A) → length xs ≡ length ys → xs ++ us ≡ ys ++ vs → us ≡ vs
behind_as_many [] [] us vs n e = e
behind_as_many (x ∷ xs) (y ∷ ys) us vs n e =
    let rest : xs ++ us ≡ ys ++ vs = cc in behind_as_many xs ys us vs (omega (arith, n)) rest
behind_as_many _ _ us vs n e = absurd (omega (arith, n))

-- ---- journals by their events

event_same : (a b : Asked) → event_in a ≡ event_in b → a ≡ b
event_same a b e =
    let asks : ask_of a ≡ ask_of b = cc in
    let replies : reply_in a ≡ reply_in b = cc in
    let reply = reply_same a.reply b.reply replies in
    λ i. record { host = (asks i).host; function = (asks i).function; args = (asks i).args; reply = reply i }

events_same : (xs ys : List Asked) → events_in xs ≡ events_in ys → xs ≡ ys
events_same [] [] e = refl
events_same (x ∷ xs) (y ∷ ys) e =
    let first : event_in x ≡ event_in y = cc in
    let rest : events_in xs ≡ events_in ys = cc in
    λ i. (event_same x y first) i ∷ events_same xs ys rest i
events_same _ _ e = absurd cc

-- ---- runs

module _ (p : Program) (calls : List SymbolCall) (steps : ℕ) where
  -- the run tells these asks, each with its reply
  abbrev Tells : List Asked → Type 0
  Tells asks = asked_events (c_run p calls steps (replies_in asks)).events ≡ events_in asks

  -- the replies in two parts
  abbrev in_parts : List Asked → List Asked → CRun
  in_parts seen todo = c_run p calls steps (replies_in seen ++ replies_in todo)

  tells_parts : (asks seen todo : List Asked) → asks ≡ seen ++ todo → Tells asks
      → asked_events (in_parts seen todo).events ≡ events_in seen ++ events_in todo
  tells_parts asks seen todo are told =
      ap (λ replies. asked_events (c_run p calls steps replies).events) (sym (map-append reply_in seen todo) ∙ ap replies_in (sym are))
      ∙ told ∙ ap events_in are ∙ map-append event_in seen todo

  -- what is told behind so many asks
  next_told : (asks seen todo : List Asked) → asks ≡ seen ++ todo → Tells asks → (front rest : List Event) (ask : Ask)
      (r : Option Reply) → (in_parts seen todo).events ≡ front ++ run.Asked ask r ∷ rest
      → length (asks_in front) ≡ length (replies_in seen) → run.Asked ask r ∷ asked_events rest ≡ events_in todo
  next_told asks seen todo are told front rest ask r events many =
      behind_as_many (asked_events front) (events_in seen) (run.Asked ask r ∷ asked_events rest) (events_in todo)
      (asked_many front ∙ many ∙ length-map seen reply_in ∙ sym (length-map seen event_in))
      (sym (asked-append front (run.Asked ask r ∷ rest)) ∙ ap asked_events (sym events) ∙ tells_parts asks seen todo are told)

  module _ {R : Type 0} (m : HostModule R) (asks asks' : List Asked) (told : Tells asks) (told' : Tells asks') where
    same_run : (seen todo todo' : List Asked) → asks ≡ seen ++ todo → asks' ≡ seen ++ todo' → in_parts seen todo ≡ in_parts seen todo'
        → asks ≡ asks'
    same_run seen todo todo' are are' same =
        let second = tells_parts asks' seen todo' are' told' in
        let events = sym (tells_parts asks seen todo are told) ∙ ap (λ (r : CRun). asked_events r.events) same ∙ second in
        events_same asks asks' (ap events_in are ∙ map-append event_in seen todo ∙ events ∙ sym (map-append event_in seen todo')
        ∙ ap events_in (sym are'))

    further : (asks seen todo : List Asked) (u : Asked) → asks ≡ seen ++ u ∷ todo → asks ≡ (seen ++ u ∷ []) ++ todo
    further asks seen todo u are = are ∙ sym (append_assoc seen (u ∷ []) todo)

    beside : (seen todo todo' : List Asked) → (in_parts seen todo ≡ in_parts seen todo')
        ⊎ PartAt (length (replies_in seen)) (in_parts seen todo).events (in_parts seen todo').events
    beside seen todo todo' = runs_beside p calls steps (replies_in seen) (replies_in todo) (replies_in todo')

    -- the asks that follow those that were seen
    asks_same : (seen todo todo' : List Asked) (now after : List R) → asks ≡ seen ++ todo → asks' ≡ seen ++ todo' → AreAt m asks seen now
        → Answered m now todo' after → asks ≡ asks'
    asks_same seen [] todo' now after are are' at answered = elim (beside seen [] todo') [
      | inl same ↦ same_run seen [] todo' are are' same
      | inr h ↦ (let next = next_told asks seen [] are told h.front h.rest h.ask h.reply h.events_are h.so_many in absurd cc)
    ]
    asks_same seen (u ∷ todo) [] now after are are' at answered = elim (beside seen (u ∷ todo) []) [
      | inl same ↦ same_run seen (u ∷ todo) [] are are' same
      | inr h ↦ (let next = next_told asks' seen [] are' told' h.front h.rest' h.ask h.other h.others_are h.so_many in absurd cc)
    ]
    asks_same seen (u ∷ todo) (v ∷ todo') now after are are' at answered = elim (beside seen (u ∷ todo) (v ∷ todo')) [
      | inl same ↦ same_run seen (u ∷ todo) (v ∷ todo') are are' same
      | inr h ↦ (
          let next = next_told asks seen (u ∷ todo) are told h.front h.rest h.ask h.reply h.events_are h.so_many in
          let next' = next_told asks' seen (v ∷ todo') are' told' h.front h.rest' h.ask h.other h.others_are h.so_many in
          let here : h.ask ≡ ask_of u = cc in
          let here' : h.ask ≡ ask_of v = cc in
          let one = one_answer m asks seen todo u v now answered.0 are at answered.1 (sym here' ∙ here) in
          asks_same (seen ++ u ∷ []) todo todo' answered.0 after (further asks seen todo u are)
          (further asks' seen todo' u (are' ∙ ap (λ a. seen ++ a ∷ todo') one.0)) one.1 answered.2)
    ]

-- hosts at their start have used up nothing
at_start : (j : Recorded) (replays : List ReplayHost) → AreReplays j replays → AreAt replaying j.entries [] replays
at_start j replays are = λ k r at. record {
  may = λ before i args answer after may. subst (λ calls. Replays calls before i args answer after) (are.each k r at).calls_are may;
  used = ap (λ n. n ∷ []) (are.each k r at).unused;
}

module _ {H : Type 0} (m : HostModule H) (hosts : List H) (units : List (List tree.Item)) (calls : List SymbolCall) (steps : ℕ)
    (asks again : List Asked) (replays : List ReplayHost) (first : IsAnsweredRun m hosts units calls steps asks)
    (are : AreReplays (record { hosts = hosts_of m hosts; entries = asks }) replays)
    (second : IsAnsweredRun replaying replays units calls steps again) where
  offered : hosts_of replaying replays ≡ hosts_of m hosts
  offered = hosts_same (record { hosts = hosts_of m hosts; entries = asks }) replays are

  pub asks_again : again ≡ asks
  asks_again = sym (asks_same (program_with m hosts units) calls steps replaying asks again first.told
      (ap (λ (hs : List Host). asked_events (c_run (record { units = units; hosts = hs }) calls steps (replies_in again)).events)
      (sym offered) ∙ second.told)
      [] asks again replays second.after refl refl (at_start (record { hosts = hosts_of m hosts; entries = asks }) replays are)
      second.answered)

  pub run_again : run_with replaying replays units calls steps again ≡ run_with m hosts units calls steps asks
  run_again = λ i. c_run (record { units = units; hosts = offered i }) calls steps (replies_in (asks_again i))
