-- The lines of what was told, of asks and of outcomes.
use Rattle.crun_cli.proofs.Common.{◌≡◌, ℕ, ◌+◌, List, [], ◌∷◌, ◌++◌, map, length, Some, sym, refl, ap, ◌∙◌, append_assoc, append-nil, arith}
use Rattle.crun_cli.proofs.Common.{map-append, values_behind, Call, CallEnded, Event, Host, Init, asks_in, values_in, CRun, Ended}
use Rattle.crun_cli.proofs.Common.{OutOfSteps, Stopped, Trapped, Undefined, event_lines_append, ended_line, last_line, event_lines, ask_of}
use Rattle.crun_cli.proofs.Common.{event_in, events_in, Asked, asked-append, asked_events, place_of, IsEnd, told_by, Outcome, HasStatus}
use Rattle.crun_cli.proofs.Common.{asked_line, asks_lines, lines_behind, status_of_outcome}
use Rattle.w2c_base.specs.Run as run
use Rattle.c_meaning.specs.Run as meaning
use Rattle.crun.specs.declared.outcome.Outcome.TheVariants as outcome
use Rattle.crun.proofs.History.{asks_told, no_values_told}

-- ---- asks

pub asks_are_asked : (asks : List Asked) → asked_events (events_in asks) ≡ events_in asks
asks_are_asked [] = refl
asks_are_asked (a ∷ asks) = ap (λ l. event_in a ∷ l) (asks_are_asked asks)

pub told_asks : (told : List Event) (journal asks : List Asked) (o : Outcome) → asked_events told ≡ events_in journal
    → asked_events (told_by told asks o) ≡ events_in (journal ++ asks)
told_asks told journal asks o are = by o
  where
    front : asked_events (told ++ events_in asks) ≡ events_in (journal ++ asks)
    front = asked-append told (events_in asks) ∙ ap (λ l. l ++ asked_events (events_in asks)) are
        ∙ ap (λ l. events_in journal ++ l) (asks_are_asked asks) ∙ sym (map-append event_in journal asks)

    by : (o : Outcome) → asked_events (told_by told asks o) ≡ events_in (journal ++ asks)
    by (outcome.Ended value) = asked-append (told ++ events_in asks) (CallEnded value ∷ [])
        ∙ append-nil (asked_events (told ++ events_in asks)) ∙ front
    by _ = front

-- the asks of a run whose asked events these are
pub asks_of_events : (events : List Event) → asks_in (asked_events events) ≡ asks_in events
asks_of_events [] = refl
asks_of_events (run.Asked ask reply ∷ events) = ap (λ l. ask ∷ l) (asks_of_events events)
asks_of_events (CallEnded value ∷ events) = asks_of_events events

pub asks_are : (events : List Event) (journal : List Asked) → asked_events events ≡ events_in journal → asks_in events ≡ map ask_of journal
asks_are events journal are = sym (asks_of_events events) ∙ ap asks_in are ∙ asks_told journal

-- ---- lines

pub lines_of_asks : (hosts : List Host) (k : ℕ) (asks : List Asked) → event_lines hosts k (events_in asks) ≡ asks_lines hosts asks
lines_of_asks hosts k [] = refl
lines_of_asks hosts k (a ∷ asks) = ap (λ l. asked_line hosts a ++ l) (lines_of_asks hosts k asks)

-- how the run of an outcome came out
abbrev pub came_out : Outcome → meaning.Outcome
came_out (outcome.Ended value) = Ended
came_out (outcome.Trapped kind) = Stopped (Trapped kind)
came_out (outcome.Undefined u) = Stopped (Undefined u.kind (place_of u))
came_out outcome.OutOfSteps = OutOfSteps

pub end_is : (o : Outcome) (r : CRun) → IsEnd o r → r.outcome ≡ came_out o
end_is (outcome.Ended value) r end = end.0
end_is _ r end = end

pub status_is : (o : Outcome) (status : ℕ) → status_of_outcome o ≡ Some status → HasStatus (came_out o) status
status_is (outcome.Ended value) status e = absurd cc
status_is (outcome.Trapped kind) status e = (let same : 1 ≡ status = cc in sym same)
status_is (outcome.Undefined u) status e = (let same : 8 ≡ status = cc in sym same)
status_is outcome.OutOfSteps status e = (let same : 7 ≡ status = cc in sym same)

-- the init functions: their asks, and the last line where one did not end
pub inits_lines : (hosts : List Host) (k : ℕ) (asks : List Asked) (o : Outcome)
    → event_lines hosts 0 (events_in asks) ++ last_line (Init k) (came_out o) ≡ lines_behind hosts asks (Init k) o
inits_lines hosts k asks o = ap (λ l. l ++ last_line (Init k) (came_out o)) (lines_of_asks hosts 0 asks) ∙ by o
  where
    by : (o : Outcome) → asks_lines hosts asks ++ last_line (Init k) (came_out o) ≡ lines_behind hosts asks (Init k) o
    by (outcome.Ended value) = refl
    by _ = refl

-- a call behind what was told: the lines of its asks, and its own
pub call_lines : (hosts : List Host) (k : ℕ) (told : List Event) (asks : List Asked) (o : Outcome) → length (values_in told) ≡ k
    → event_lines hosts 0 (told_by told asks o) ++ last_line (Call k) (came_out o)
    ≡ event_lines hosts 0 told ++ lines_behind hosts asks (Call k) o
call_lines hosts k told asks o count = by o
  where
    lines : List ℕ
    lines = event_lines hosts 0 told

    front : event_lines hosts 0 (told ++ events_in asks) ≡ lines ++ asks_lines hosts asks
    front = event_lines_append hosts 0 told (events_in asks) ∙ ap (λ l. lines ++ l) (lines_of_asks hosts (0 + length (values_in told)) asks)

    stopped : (last : List ℕ) → event_lines hosts 0 (told ++ events_in asks) ++ last ≡ lines ++ (asks_lines hosts asks ++ last)
    stopped last = ap (λ l. l ++ last) front ∙ append_assoc lines (asks_lines hosts asks) last

    number : 0 + length (values_in (told ++ events_in asks)) ≡ k
    number =
        let same : values_in (told ++ events_in asks) ≡ values_in told =
        values_behind told (events_in asks) ∙ ap (λ vs. values_in told ++ vs) (no_values_told asks) ∙ append-nil (values_in told) in
        let counted : length (values_in (told ++ events_in asks)) ≡ k = ap length same ∙ count in
        omega (arith, counted)

    by : (o : Outcome) → event_lines hosts 0 (told_by told asks o) ++ last_line (Call k) (came_out o)
        ≡ lines ++ lines_behind hosts asks (Call k) o
    by (outcome.Ended value) =
        append-nil (event_lines hosts 0 ((told ++ events_in asks) ++ CallEnded value ∷ []))
        ∙ event_lines_append hosts 0 (told ++ events_in asks) (CallEnded value ∷ [])
        ∙ ap (λ n. event_lines hosts 0 (told ++ events_in asks) ++ (ended_line n value ++ [])) number
        ∙ ap (λ l. event_lines hosts 0 (told ++ events_in asks) ++ l) (append-nil (ended_line k value))
        ∙ stopped (ended_line k value)
    by (outcome.Trapped kind) = stopped (last_line (Call k) (Stopped (Trapped kind)))
    by (outcome.Undefined u) = stopped (last_line (Call k) (Stopped (Undefined u.kind (place_of u))))
    by outcome.OutOfSteps = stopped (last_line (Call k) OutOfSteps)
