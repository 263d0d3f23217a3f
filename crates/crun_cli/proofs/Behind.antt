-- What the outcome of an init function or a call, and the lines that are written of it, make of where a run stands.
use Rattle.crun_cli.proofs.Common.{◌≡◌, ℕ, ◌+◌, Bool, true, false, List, [], ◌∷◌, ◌++◌, map, length, drop, if◌then◌else◌, Some, None, sym}
use Rattle.crun_cli.proofs.Common.{Option, refl, ap, ◌∙◌, subst, append_assoc, append-nil, drop_at, map-append, asks_behind, Ask, Call}
use Rattle.crun_cli.proofs.Common.{Event, Host, Init, Phase, asks_in, values_in, Value, extended, SaysPart, unit_of, SymbolCall, CRun, over}
use Rattle.crun_cli.proofs.Common.{Ended, c_run, event_lines_append, last_line, event_lines, lines_of, Answered, hosts_of, ask_of, reply_in}
use Rattle.crun_cli.proofs.Common.{events_in, replies_in, Asks, HostModule, Asked, asked_events, machine_with, IsLast, IsOutcome, Stands}
use Rattle.crun_cli.proofs.Common.{State, objects_of, program_of, told_by, trail_of, Outcome, part_behind, part_in_front, says_nothing}
use Rattle.crun_cli.proofs.Common.{whole_behind, HasAsked, HasPartLeaving, HasStatus, lines_behind, status_of_outcome}
use Rattle.crun.specs.declared.outcome.Outcome.TheVariants as outcome
use Rattle.crun_lines.specs.StateLines.{state_lines}
use Rattle.crun_cli.specs.Playing.{lines_at, run_at, HasPlayed, IsBehind, IsLeft, IsSince, IsStored}
use Rattle.crun_cli.proofs.Lines.{asks_are, call_lines, came_out, end_is, inits_lines, status_is, told_asks}
use Rattle.crun_cli.proofs.Sessions.{has_ended, told_in_front}

-- hosts have answered these asks, and then those
answered_append : {H : Type 0} (m : HostModule H) (before middle after : List H) (asks more : List Asked)
    → Answered m before asks middle → Answered m middle more after → Answered m before (asks ++ more) after
answered_append m before middle after [] more same answered = subst (λ hs. Answered m hs more after) same answered
answered_append m before middle after (a ∷ asks) more (next, answers, rest) answered =
    (next, answers, answered_append m next middle after asks more rest answered)

-- no outcome but an end is an end
abbrev pub IsEnded : Outcome → Type 0
IsEnded o = (value : Option Value) × (o ≡ outcome.Ended value)

pub ended_or_not : (o : Outcome) (P : Type 0) → (IsEnded o → P) → (((rest : List SymbolCall) → IsLast o rest) → P) → P
ended_or_not (outcome.Ended value) P ended stopped = ended (value, refl)
ended_or_not (outcome.Trapped kind) P ended stopped = stopped (λ rest. tt)
ended_or_not _ P ended stopped = stopped (λ rest. tt)

pub is_ended : (o : Outcome) → status_of_outcome o ≡ None → IsEnded o
is_ended (outcome.Ended value) e = (value, refl)
is_ended _ e = absurd cc

pub is_last : (o : Outcome) (status : ℕ) (rest : List SymbolCall) → status_of_outcome o ≡ Some status → IsLast o rest
is_last (outcome.Ended value) status rest e = absurd cc
is_last _ status rest e = tt

ended_text : (phase : Phase) (o : Outcome) → IsEnded o → last_line phase (came_out o) ≡ []
ended_text phase o (value, is) = ap (λ o. last_line phase (came_out o)) is

module _ {H : Type 0} (m : HostModule H) (e : State H) where
  abbrev hosts : List Host
  hosts = hosts_of m e.hosts

  pub since_start : e.journal ≡ [] → IsSince m e e
  since_start none = record {
    linked = refl;
    steps = refl;
    hosts = refl;
    answered = subst (λ asks. Answered m e.hosts asks e.hosts) (sym none) refl;
  }

  pub since_next : (s s' : State H) (asks : List Asked) → IsSince m e s → s'.linked ≡ s.linked → s'.steps ≡ s.steps
      → hosts_of m s'.hosts ≡ hosts_of m s.hosts → Asks m s.hosts s.journal asks s'.hosts s'.journal → IsSince m e s'
  since_next s s' asks since linked steps same asked = record {
    linked = linked ∙ since.linked;
    steps = steps ∙ since.steps;
    hosts = same ∙ since.hosts;
    answered = rw asked.written (answered_append m e.hosts s.hosts s'.hosts s.journal asks since.answered asked.answered);
  }

  program_same : (s : State H) → IsSince m e s → program_of m s ≡ program_of m e
  program_same s since = (λ i. record { units = map unit_of (since.linked i).0; hosts = since.hosts i })

  -- a run of the session's program is one of the program at the start
  pub run_is : (s : State H) (calls : List SymbolCall) (asks : List Asked) → IsSince m e s
      → c_run (program_of m s) calls s.steps (replies_in asks) ≡ c_run (program_of m e) calls e.steps (replies_in asks)
  run_is s calls asks since =
      ap (λ p. c_run p calls s.steps (replies_in asks)) (program_same s since)
      ∙ ap (λ n. c_run (program_of m e) calls n (replies_in asks)) since.steps

  module _ (s : State H) (since : IsSince m e s) (old now : Option (List ℕ)) (calls : List SymbolCall) where
    abbrev run : CRun
    run = run_at m e s calls

    -- more may be told behind what was told: a part of its lines is written
    part_told : (told rest : List Event) → run.events ≡ told ++ rest → SaysPart old now (event_lines hosts 0 told)
        → SaysPart old now (lines_at m e s calls)
    part_told told rest front part = subst (SaysPart old now) whole (part_in_front old now (event_lines hosts 0 told)
        (event_lines hosts (0 + length (values_in told)) rest ++ last_line run.phase run.outcome) part)
      where
        whole : event_lines hosts 0 told ++ (event_lines hosts (0 + length (values_in told)) rest ++ last_line run.phase run.outcome)
            ≡ lines_at m e s calls
        whole = sym (append_assoc (event_lines hosts 0 told) (event_lines hosts (0 + length (values_in told)) rest)
            (last_line run.phase run.outcome))
            ∙ ap (λ l. l ++ last_line run.phase run.outcome)
            (sym (event_lines_append hosts 0 told rest) ∙ ap (event_lines hosts 0) (sym front))

    left_in_front : (told rest : List Event) → run.events ≡ told ++ rest → asked_events told ≡ events_in s.journal
        → SaysPart old now (event_lines hosts 0 told) → IsLeft m e s calls old now
    left_in_front told rest front asks part = record {
      since = since;
      more = asks_in rest;
      first = ap asks_in front ∙ asks_behind told rest ∙ ap (λ l. l ++ asks_in rest) (asks_are told s.journal asks);
      part = part_told told rest front part;
    }

    -- the run came to this outcome
    module _ (o : Outcome) (phase : Phase) (told : List Event) (is : IsOutcome o phase s.journal told (objects_of s) run) where
      pub lines_are : event_lines hosts 0 told ++ last_line phase (came_out o) ≡ lines_at m e s calls
      lines_are =
          ap (λ l. l ++ last_line phase (came_out o)) (ap (event_lines hosts 0) (sym is.events))
          ∙ ap (λ ph. event_lines hosts 0 run.events ++ last_line ph (came_out o)) (sym is.phase_is)
          ∙ ap (λ x. event_lines hosts 0 run.events ++ last_line run.phase x) (sym (end_is o run is.end))

      pub left_at_end : SaysPart old now (event_lines hosts 0 told ++ last_line phase (came_out o)) → IsLeft m e s calls old now
      left_at_end part = record {
        since = since;
        more = [];
        first = is.asks ∙ sym (append-nil (map ask_of s.journal));
        part = subst (SaysPart old now) lines_are part;
      }

      pub played_at_end : (status : ℕ) → status_of_outcome o ≡ Some status → IsStored s → asked_events told ≡ events_in s.journal
          → now ≡ extended old (event_lines hosts 0 told ++ last_line phase (came_out o)) → HasPlayed m e s calls old now status
      played_at_end status some stored asks printed = record {
        since = since;
        stored = stored;
        asks = ap asked_events is.events ∙ asks;
        has_status = subst (λ x. HasStatus x status) (sym (end_is o run is.end)) (status_is o status some);
        objects = is.objects;
        printed = printed ∙ ap (extended old) lines_are;
      }

  -- ---- the outcome of what ran behind these calls, or with the last of them

  module _ (s : State H) (since : IsSince m e s) (old now : Option (List ℕ)) (o : Outcome) (phase : Phase) (told : List Event)
      (front : List SymbolCall) (asks : asked_events told ≡ events_in s.journal)
      (ran : (rest : List SymbolCall) → IsLast o rest → IsOutcome o phase s.journal told (objects_of s) (run_at m e s (front ++ rest)))
    where
      abbrev text : List ℕ
      text = event_lines hosts 0 told ++ last_line phase (came_out o)

      ended_is : IsEnded o → text ≡ event_lines hosts 0 told
      ended_is is = ap (λ l. event_lines hosts 0 told ++ l) (ended_text phase o is) ∙ append-nil (event_lines hosts 0 told)

      pub goes_on : status_of_outcome o ≡ None → IsStored s → Stands m s front told → now ≡ extended old text → IsBehind m e s front old now
      goes_on none stored stands printed = record {
        since = since;
        stored = stored;
        told = told;
        stands = stands;
        asks = asks;
        printed = printed ∙ ap (extended old) (ended_is (is_ended o none));
      }

      pub stops : (status : ℕ) → status_of_outcome o ≡ Some status → IsStored s → now ≡ extended old text → (more : List SymbolCall)
          → HasPlayed m e s (front ++ more) old now status
      stops status some stored printed more = played_at_end s since old now (front ++ more) o phase told
          (ran more (is_last o status more some)) status some stored asks printed

      pub is_left : (IsEnded o → Stands m s front told) → SaysPart old now text → (more : List SymbolCall)
          → IsLeft m e s (front ++ more) old now
      is_left stands part more = ended_or_not o (IsLeft m e s (front ++ more) old now) ended stopped
        where
          ended : IsEnded o → IsLeft m e s (front ++ more) old now
          ended is =
              let behind = told_in_front m s front told (stands is) more [] in
              let here = ap (λ rs. c_run (program_of m s) (front ++ more) s.steps rs) (sym (append-nil (replies_in s.journal))) in
              left_in_front s since old now (front ++ more) told behind.0
              (ap (λ (r : CRun). r.events) (sym (run_is s (front ++ more) s.journal since) ∙ here) ∙ behind.1) asks
              (subst (SaysPart old now) (ended_is is) part)

          stopped : ((rest : List SymbolCall) → IsLast o rest) → IsLeft m e s (front ++ more) old now
          stopped last = left_at_end s since old now (front ++ more) o phase told (ran more (last more)) part

  -- ---- behind the init functions

  pub inits_are : (s : State H) (o : Outcome) (k : ℕ) → IsSince m e s → lines_behind (hosts_of m s.hosts) (drop 0 s.journal) (Init k) o
      ≡ event_lines hosts 0 (events_in s.journal) ++ last_line (Init k) (came_out o)
  inits_are s o k since = ap (λ hs. lines_behind hs s.journal (Init k) o) since.hosts ∙ sym (inits_lines hosts k s.journal o)

  -- memory was wanting in the init functions
  pub inits_wanting : (s : State H) → IsSince m e s → (old : Option (List ℕ)) (calls : List SymbolCall)
      → ((more : List Ask) × (asks_in (c_run (program_of m e) calls e.steps (replies_in s.journal)).events ≡ map ask_of s.journal ++ more))
      → IsLeft m e s calls old old
  inits_wanting s since old calls asked = record {
    since = since;
    more = asked.0;
    first = asked.1;
    part = says_nothing old (lines_at m e s calls);
  }

  -- ---- behind a call

  module _ (s s' : State H) (done : List SymbolCall) (c : SymbolCall) (old before : Option (List ℕ))
      (behind : IsBehind m e s done old before)
      (since : IsSince m e s') (asks : List Asked) (written : s'.journal ≡ s.journal ++ asks) where
    abbrev told : List Event
    told = behind.told

    abbrev front_text : List ℕ
    front_text = event_lines hosts 0 told

    new_asks : drop (length s.journal) s'.journal ≡ asks
    new_asks = ap (drop (length s.journal)) written ∙ drop_at s.journal asks (length s.journal) refl

    module _ (o : Outcome) (now : Option (List ℕ))
        (ran : (rest : List SymbolCall) → IsLast o rest
        → IsOutcome o (Call (length done)) s'.journal (told_by told asks o) (objects_of s')
        (c_run (program_of m s) (done ++ c ∷ rest) s.steps (replies_in s'.journal))) where
      abbrev call_text : List ℕ
      call_text = lines_behind (hosts_of m s'.hosts) (drop (length s.journal) s'.journal) (Call (length done)) o

      abbrev told' : List Event
      told' = told_by told asks o

      texts_are : front_text ++ call_text ≡ event_lines hosts 0 told' ++ last_line (Call (length done)) (came_out o)
      texts_are =
          ap (λ hs. front_text ++ lines_behind hs (drop (length s.journal) s'.journal) (Call (length done)) o) since.hosts
          ∙ ap (λ js. front_text ++ lines_behind hosts js (Call (length done)) o) new_asks
          ∙ sym (call_lines hosts (length done) told asks o behind.stands.values)

      asks' : asked_events told' ≡ events_in s'.journal
      asks' = told_asks told s.journal asks o behind.asks ∙ ap events_in (sym written)

      here : (rest : List SymbolCall) → IsLast o rest
          → IsOutcome o (Call (length done)) s'.journal told' (objects_of s') (run_at m e s' ((done ++ c ∷ []) ++ rest))
      here rest last = subst (λ cs. IsOutcome o (Call (length done)) s'.journal told' (objects_of s') (run_at m e s' cs))
          (sym (append_assoc done (c ∷ []) rest)) (rw (run_is s (done ++ c ∷ rest) s'.journal behind.since) at (ran rest last))

      pub call_behind : status_of_outcome o ≡ None → IsStored s' → Stands m s' (done ++ c ∷ []) told' → now ≡ extended before call_text
          → IsBehind m e s' (done ++ c ∷ []) old now
      call_behind none stored stands printed =
          goes_on s' since old now o (Call (length done)) told' (done ++ c ∷ []) asks' here none stored stands
          (whole_behind old before now front_text call_text behind.printed printed ∙ ap (extended old) texts_are)

      pub call_played : (status : ℕ) → status_of_outcome o ≡ Some status → IsStored s' → now ≡ extended before call_text
          → (more : List SymbolCall) → HasPlayed m e s' (done ++ c ∷ more) old now status
      call_played status some stored printed more =
          subst (λ cs. HasPlayed m e s' cs old now status) (append_assoc done (c ∷ []) more)
          (stops s' since old now o (Call (length done)) told' (done ++ c ∷ []) asks' here status some stored
          (whole_behind old before now front_text call_text behind.printed printed ∙ ap (extended old) texts_are) more)

      pub call_left : (IsEnded o → Stands m s' (done ++ c ∷ []) told') → SaysPart before now call_text
          → (more : List SymbolCall) → IsLeft m e s' (done ++ c ∷ more) old now
      call_left stands part more =
          subst (λ cs. IsLeft m e s' cs old now) (append_assoc done (c ∷ []) more)
          (is_left s' since old now o (Call (length done)) told' (done ++ c ∷ []) asks' here stands
          (subst (SaysPart old now) texts_are (part_behind old before now front_text call_text behind.printed part)) more)

    -- memory was wanting in the call
    pub call_wanting : (more : List SymbolCall)
        → ((rest : List Ask) × (asks_in (c_run (program_of m s) (done ++ c ∷ more) s.steps (replies_in s'.journal)).events
        ≡ map ask_of s'.journal ++ rest))
        → IsLeft m e s' (done ++ c ∷ more) old before
    call_wanting more asked = record {
      since = since;
      more = asked.0;
      first = ap (λ (r : CRun). asks_in r.events) (sym (run_is s (done ++ c ∷ more) s'.journal behind.since)) ∙ asked.1;
      part = part_told s' since old before (done ++ c ∷ more) told front.0 front.1
          (front_text, ([], sym (append-nil front_text)), behind.printed);
    }
      where
        front : (rest : List Event) × ((run_at m e s' (done ++ c ∷ more)).events ≡ told ++ rest)
        front =
            let f = told_in_front m s done told behind.stands (c ∷ more) (replies_in asks) in
            let replies : replies_in s'.journal ≡ replies_in s.journal ++ replies_in asks = ap replies_in written
            ∙ map-append reply_in s.journal asks in (
              f.0,
              ap (λ (r : CRun). r.events) (sym (run_is s (done ++ c ∷ more) s'.journal behind.since)
                  ∙ ap (λ rs. c_run (program_of m s) (done ++ c ∷ more) s.steps rs) replies) ∙ f.1,
            )

  -- ---- behind all calls

  pub all_played : (s : State H) (calls : List SymbolCall) (old now : Option (List ℕ)) → IsBehind m e s calls old now
      → HasPlayed m e s calls old now 0
  all_played s calls old now behind = record {
    since = behind.since;
    stored = behind.stored;
    asks = ap (λ (r : CRun). asked_events r.events) is ∙ behind.asks;
    has_status = subst (λ (r : CRun). HasStatus r.outcome 0) (sym is) refl;
    objects = ap (λ (r : CRun). r.units) is;
    printed = behind.printed ∙ ap (extended old) (sym (append-nil (event_lines hosts 0 behind.told))
        ∙ ap (λ (r : CRun). event_lines hosts 0 r.events ++ last_line r.phase r.outcome) (sym is));
  }
    where
      is : run_at m e s calls
          ≡ over (record { phase = behind.stands.last; entries = [] }) (machine_with s.depth (objects_of s) (trail_of [] behind.told)) Ended
      is = sym (run_is s calls s.journal behind.since) ∙ has_ended m s calls behind.told behind.stands

  -- ---- with the state or without it

  module _ (s : State H) (calls : List SymbolCall) (old : Option (List ℕ)) where
    abbrev the_run : CRun
    the_run = run_at m e s calls

    pub all_lines : (shown : Bool) → lines_at m e s calls ++ (if shown then state_lines hosts the_run.units else [])
        ≡ lines_of hosts shown the_run
    all_lines shown = refl

    part_of : IsSince m e s → (more : List Ask) → asks_in the_run.events ≡ map ask_of s.journal ++ more → (shown : Bool)
        (now : Option (List ℕ)) → SaysPart old now (lines_of hosts shown the_run)
        → HasPartLeaving m e.hosts (map unit_of e.linked.0) calls e.steps shown old now s.hosts
    part_of since more first shown now part = record {
      part = record { asks = s.journal; after = s.hosts; answered = since.answered; more = more; first = first; part = part };
      hosts_are = refl;
    }

    pub left_part : (shown : Bool) (now : Option (List ℕ)) → IsLeft m e s calls old now
        → HasPartLeaving m e.hosts (map unit_of e.linked.0) calls e.steps shown old now s.hosts
    left_part shown now left = part_of left.since left.more left.first shown now (subst (SaysPart old now) (all_lines shown)
        (part_in_front old now (lines_at m e s calls) (if shown then state_lines hosts the_run.units else []) left.part))

    module _ (middle : Option (List ℕ)) (status : ℕ) (p : HasPlayed m e s calls old middle status) where
      ran_with : (shown : Bool) (now : Option (List ℕ)) → now ≡ extended old (lines_of hosts shown the_run)
          → HasAsked m e.hosts (map unit_of e.linked.0) calls e.steps shown old now status s.journal s.hosts
      ran_with shown now lines = record {
        run = record {
          asks = s.journal;
          after = s.hosts;
          answered = p.since.answered;
          told = p.asks;
          has_status = p.has_status;
          lines = lines;
        };
        asks_are = refl;
        hosts_are = refl;
      }

      pub ran_alone : HasAsked m e.hosts (map unit_of e.linked.0) calls e.steps false old middle status s.journal s.hosts
      ran_alone = ran_with false middle
          (p.printed ∙ ap (extended old) (sym (append-nil (lines_at m e s calls)) ∙ all_lines false))

      state_is : state_lines (hosts_of m s.hosts) (objects_of s) ≡ state_lines hosts the_run.units
      state_is = ap (λ hs. state_lines hs (objects_of s)) p.since.hosts ∙ ap (state_lines hosts) (sym p.objects)

      pub ran_shown : (now : Option (List ℕ)) → now ≡ extended middle (state_lines (hosts_of m s.hosts) (objects_of s))
          → HasAsked m e.hosts (map unit_of e.linked.0) calls e.steps true old now status s.journal s.hosts
      ran_shown now printed = ran_with true now
          (whole_behind old middle now (lines_at m e s calls) (state_lines hosts the_run.units) p.printed
          (printed ∙ ap (extended middle) state_is) ∙ ap (extended old) (all_lines true))

      pub shown_part : (now : Option (List ℕ)) → SaysPart middle now (state_lines (hosts_of m s.hosts) (objects_of s))
          → HasPartLeaving m e.hosts (map unit_of e.linked.0) calls e.steps true old now s.hosts
      shown_part now part = part_of p.since []
          (asks_are the_run.events s.journal p.asks ∙ sym (append-nil (map ask_of s.journal))) true now
          (subst (SaysPart old now) (all_lines true)
          (part_behind old middle now (lines_at m e s calls) (state_lines hosts the_run.units) p.printed (rw state_is at part)))
