-- One statement more of a run with hosts.
use Rattle.c_hosts.proofs.Common.{◌≡◌, ℕ, ◌+◌, ◌-◌, ◌<◌, ◌≤◌, List, [], ◌∷◌, ◌++◌, None, Option, sym, refl, ap, ◌∙◌, append_assoc}
use Rattle.c_hosts.proofs.Common.{append-nil, arith, Event, Reply, Program, State, Step, c_step, AreStored, Naming, state_in, LinkedThread}
use Rattle.c_hosts.proofs.Common.{hosts_of, event_in, events_in, replies_in, reply_in, IsThread, Runs, RunsPart, step_at, trail_before}
use Rattle.c_hosts.proofs.Common.{trail_behind, HostModule, Asked}
use Rattle.std.proofs.lemmas.List.{map-append}
use Rattle.c_meaning.specs.Run.{Going, Pending, Progress, after, go_on}
use Rattle.c_meaning.proofs.Longer.{after_sum}
use Rattle.c_thread.specs.declared.control.LinkedUnit.{LinkedUnit}
use Rattle.c_thread.specs.declared.signatures.FuncTypes.{FuncTypes}
use Rattle.c_hosts.specs.declared.running.Ending.{Ending}

-- asks in front of others
pub before_both : (asks more : List Asked) (later : List Reply) (told : List Event)
    → trail_before (asks ++ more) later told ≡ trail_before asks (replies_in more ++ later) told
before_both asks more later told =
    ap (λ (rs : List Reply). record { replies = rs; events = told })
    (ap (λ rs. rs ++ later) (map-append reply_in asks more) ∙ append_assoc (replies_in asks) (replies_in more) later)

pub behind_both : (asks more : List Asked) (later : List Reply) (told : List Event)
    → trail_behind (asks ++ more) later told ≡ trail_behind more later (told ++ events_in asks)
behind_both asks more later told =
    ap (λ (es : List Event). record { replies = later; events = es })
    (ap (λ es. told ++ es) (map-append event_in asks more) ∙ sym (append_assoc told (events_in asks) (events_in more)))

-- no asks
pub behind_none : (later : List Reply) (told : List Event) → trail_behind [] later told ≡ trail_before [] later told
behind_none later told = ap (λ (es : List Event). record { replies = later; events = es }) (append-nil told)

-- one statement more
pub statement_more : (p : Program) (pending : Pending) (first left : ℕ) (start : Progress) (s : State) (o : Step) → left < first + 1
    → 0 < left
    → after p (first - left) start ≡ Going pending s → c_step p s ≡ o → after p (first - (left - 1)) start ≡ go_on p pending o
statement_more p pending first left start s o within some so_far is =
    let count : first - (left - 1) ≡ (first - left) + 1 = omega (arith, some, within) in
    ap (λ n. after p n start) count ∙ after_sum p (first - left) 1 start ∙ ap (after p 1) so_far ∙ ap (go_on p pending) is

module _ {H : Type 0} (m : HostModule H) (units : List LinkedUnit) (types : FuncTypes) (hosts : List H) (before : LinkedThread)
    (first left : ℕ) (asks : List Asked) (now : LinkedThread) (runs : Runs m units types hosts before (first - left) asks None now)
    (within : left ≤ first) where
  -- what one statement more comes to
  pub runs_more : (hosts' : List H) (more : List Asked) (e : Option Ending) (new : LinkedThread) → 0 < left
      → hosts_of m hosts' ≡ hosts_of m hosts
      → ((names : Naming) → AreStored names before.store.units.items → AreStored names now.store.units.items)
      → ((names : Naming) (p : Program) (later : List Reply) (told : List Event) → IsThread m names p units types hosts' now
      → c_step p (state_in names p (trail_before more later told) now) ≡ step_at names p (trail_behind more later told) e new)
      → Runs m units types hosts before (first - (left - 1)) (asks ++ more) e new
  runs_more hosts' more e new some same stored step names p pending later told thread =
      let here : IsThread m names p units types hosts' now = record {
        units_are = thread.units_are;
        types_are = thread.types_are;
        hosts_are = thread.hosts_are ∙ sym same;
        stored = stored names thread.stored;
      } in
      ap (λ trail. after p (first - (left - 1)) (Going pending (state_in names p trail before))) (before_both asks more later told)
      ∙ statement_more p pending first left (Going pending (state_in names p (trail_before asks (replies_in more ++ later) told) before))
      (state_in names p (trail_before more later (told ++ events_in asks)) now)
      (step_at names p (trail_behind more later (told ++ events_in asks)) e new) (omega (arith, within)) some
      (runs names p pending (replies_in more ++ later) told thread)
      (step names p later (told ++ events_in asks) here)
      ∙ ap (λ trail. go_on p pending (step_at names p trail e new)) (sym (behind_both asks more later told))

  -- and where it wants memory
  pub runs_part : RunsPart m units types hosts before first asks
  runs_part names p pending later told thread = (
    first - left,
    omega (arith, within),
    state_in names p (trail_behind asks later told) now,
    runs names p pending later told thread,
    refl,
  )
