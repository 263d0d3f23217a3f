-- What passes through the files in a call, from what its steps say.
use Rattle.crun_cli.proofs.Common.{◌≡◌, ℕ, Bool, ◌⊎◌, List, [], ◌∷◌, ◌++◌, Some, None, string_bytes, Option, MatchOption, sym, refl, ap}
use Rattle.crun_cli.proofs.Common.{subst, inl, inr, append_assoc, append-nil, Name, Told, BreaksOff, WritesFile, WriteAnswer, longer, Asked}
use Rattle.crun_cli.proofs.Common.{ReadsInOrder, limited, SymbolCall, hosts_of, HostModule, hosts_same, replaying, Recorded, journal_text}
use Rattle.crun_cli.proofs.Common.{AreDistinct, JournalFile, ReplayHost, inputs_in_order, journal_in_order, journal_read, Line, RunLine}
use Rattle.crun_cli.proofs.Common.{line_of, merges, runs, trims, AllRead, Held, JournalReading, LongCalls, LongJournal, LongUnit, NoJournal}
use Rattle.crun_cli.proofs.Common.{NotThere, Reading, most_calls_bytes, most_journal_bytes, most_unit_bytes, GivesInputs, GivesJournal, Job}
use Rattle.crun_cli.proofs.Common.{ReadsFile, TriesInputs, TriesJournal, InputStop, IsTextsJob, Run, Stops, Write, CallsLine, CallsTooLong}
use Rattle.crun_cli.proofs.Common.{JournalLine, JournalTooLong, Reason, Refused, Unread, Unwritten, Usage, WantOfMemory, error_line, by_so}
use Rattle.crun_cli.proofs.Common.{status_of, reason_of, stop_for, StopsTexts, units_so, IsMerged, IsTrimmedText, reason_for, WithHostsBy}
use Rattle.crun_cli.proofs.Common.{journal_of, IsJobBy, IsReplayJob, symbols_of, BreaksJournal, IsReadLast, IsRunJobOver, PassesLine}
use Rattle.crun_cli.proofs.Common.{PassesRun, PassesWords, ReadsMore, StopsFor, StopsQuietly, WritesJournal, WritesOfRun, WritesRun, IsText}
use Rattle.crun_cli.proofs.Common.{journal_to_read, run_reads, HasRecorded, IsBlankFor, IsFilled, IsWritten, HasPart, GivesReplays, Passes}
use Rattle.crun_cli.proofs.Common.{PutsJournal, PutsJournalPart, TriesReplay, WritesOfTexts, WritesOfTextsJob, none_passed, passed_so}
use Rattle.crun_cli.proofs.Common.{ended_by, stopped_by}
use Rattle.std.specs.Prelude.{Result}
use Rattle.w2c_io.specs.Events.{Event}
use Rattle.c_tree.specs.Tree as tree
use Rattle.crun_words.specs.declared.inputs.InputStop.TheVariants as input
use Rattle.crun_job.specs.declared.stop.Cause.TheVariants as cause
use Rattle.crun_job.specs.declared.stop.Stop.{Stop}

-- ---- the journal that is replayed

pub replay_tried : (journal : Name) (stop : InputStop) (events : List Event) → TriesJournal journal stop events
    → TriesReplay journal (reason_of (stop_for stop)) events
replay_tried journal (input.Unread name) events (same, answer, away, is) = (same, (answer, away, is))
replay_tried journal input.JournalTooLong events tried = tried
replay_tried journal input.Memory events tried = tried
replay_tried journal _ events tried = absurd tried

-- ---- the journal of a run

module _ {H : Type 0} (m : HostModule H) (hosts : List H) where
  journal_whole : (name : Option Name) (file filled : Option JournalFile) (asks : List Asked) (old new : Told) (written : List Event)
      → AreDistinct (hosts_of m hosts) → IsBlankFor m hosts name file → IsFilled m hosts asks file filled → IsWritten name filled old new
      → PutsJournal name filled written → WritesJournal name (journal_of m hosts asks) written
  journal_whole None file filled asks old new written distinct blank is holds puts = puts
  journal_whole (Some name) None filled asks old new written distinct blank is holds puts = absurd blank
  journal_whole (Some name) (Some file) None asks old new written distinct blank is holds puts = absurd is
  journal_whole (Some name) (Some file) (Some filled) asks old new written distinct blank is holds puts = (
    subst (λ (j : Recorded). WritesFile name (journal_text j) written) is puts,
    subst (λ (j : Recorded). IsText j) is holds.1 distinct,
  )

  journal_broken : (name : Option Name) (file filled : Option JournalFile) (asks : List Asked) (why : WriteAnswer) (written : List Event)
      → IsBlankFor m hosts name file → IsFilled m hosts asks file filled → PutsJournalPart name filled why written
      → BreaksJournal name (journal_of m hosts asks) why written
  journal_broken None file filled asks why written blank is part = absurd part
  journal_broken (Some name) None filled asks why written blank is part = absurd blank
  journal_broken (Some name) (Some file) None asks why written blank is part = absurd is
  journal_broken (Some name) (Some file) (Some filled) asks why written blank is (inl memory) = inl memory
  journal_broken (Some name) (Some file) (Some filled) asks why written blank is (inr broken) =
      inr (subst (λ (j : Recorded). BreaksOff name (journal_text j) why written) is broken)

  module _ (line : RunLine) (texts : List (List ℕ)) (text : List ℕ) (old new : Option (List ℕ)) (end : Result ℕ Stop) where
    abbrev Writes : List Event → Type 0
    Writes written = WritesOfTexts m hosts line texts text old new (ended_by end) (stopped_by {A = ℕ} end) written

    -- the texts come to no task
    pub texts_stopped : (why : Reason) → StopsTexts line (symbols_of (hosts_of m hosts)) texts text why
        → StopsQuietly old new (stopped_by {A = ℕ} end) why → Writes []
    texts_stopped (Refused file cause) stop stopped = inr (Stops (Refused file cause), stop, (refl, stopped))
    texts_stopped (CallsLine number) stop stopped = inr (Stops (CallsLine number), stop, (refl, stopped))
    texts_stopped WantOfMemory stop stopped = inl (refl, stopped)
    texts_stopped _ stop stopped = absurd stop

    -- the task was made for hosts that are these
    module _ (units : List (List tree.Item)) (calls : List SymbolCall) (steps : ℕ) (shown : Bool) (made : List H) (same : made ≡ hosts)
        (given : IsTextsJob line (symbols_of (hosts_of m made)) texts text (Run units calls steps shown)) where
      of_task : (written : List Event)
          → WritesOfTextsJob m hosts line old new (ended_by end) (stopped_by {A = ℕ} end) (Run units calls steps shown) written
          → Writes written
      of_task written writes = inr (
        Run units calls steps shown,
        subst (λ hs. IsTextsJob line (symbols_of (hosts_of m hs)) texts text (Run units calls steps shown)) same given,
        writes,
      )

      -- a part of its lines is written
      pub left_passed : (start : List Event) → HasPart m hosts units calls steps shown old new
          → stopped_by {A = ℕ} end Unwritten ⊎ stopped_by {A = ℕ} end WantOfMemory → Passes start start Writes
      left_passed start part stopped = none_passed start Writes (of_task [] (inr (part, refl, stopped)))

      module _ (status : ℕ) (file filled : Option JournalFile)
          (ran : HasRecorded m hosts units calls steps shown old new status file filled)
          (begun : List H) (begun_same : begun ≡ hosts) (begun_blank : IsBlankFor m begun line.journal file) (start behind : List Event)
        where
          blank : IsBlankFor m hosts line.journal file
          blank = subst (λ hs. IsBlankFor m hs line.journal file) begun_same begun_blank

          pub written_passed : (old' new' : Told) → AreDistinct (hosts_of m hosts) → IsWritten line.journal filled old' new'
              → ended_by end status → Passes start behind (PutsJournal line.journal filled) → Passes start behind Writes
          written_passed old' new' distinct holds ends = passed_so start behind (PutsJournal line.journal filled) Writes (λ written puts.
              let whole = journal_whole line.journal file filled ran.run.asks old' new' written distinct blank ran.filled_is holds puts in
              of_task written (inl (record { status = status; run = ran.run; ends = inl (whole, ends) })))

          pub broken_passed : (why : WriteAnswer) → stopped_by {A = ℕ} end (reason_for why)
              → Passes start behind (PutsJournalPart line.journal filled why) → Passes start behind Writes
          broken_passed why stopped = passed_so start behind (PutsJournalPart line.journal filled why) Writes (λ written part.
              let broken = journal_broken line.journal file filled ran.run.asks why written blank ran.filled_is part in
              of_task written (inl (record { status = status; run = ran.run; ends = inr (why, broken, stopped) })))

-- ---- a run

no_more : (replayed : Option Name) (reading : Reading) → ReadsMore replayed reading []
no_more None (AllRead texts text) = refl
no_more None _ = refl
no_more (Some name) (AllRead texts text) = tt
no_more (Some name) (NotThere file) = refl
no_more (Some name) _ = refl

module _ {H : Type 0} (m : HostModule H) (hosts : List H) (line : RunLine) (old new : Option (List ℕ)) (Ends : ℕ → Type 0)
    (Stopped : Reason → Type 0) where
  abbrev Passed : List Event → Type 0
  Passed events = PassesRun m hosts line old new Ends Stopped events

  -- a file is not there, or too long
  refused_input : (reading : Reading) (why : Reason) (events : List Event) → GivesInputs line.units line.calls reading events
      → IsJobBy line (hosts_of m hosts) (λ name r. GivesJournal name r []) reading (Stops why) → StopsQuietly old new Stopped why
      → Passed events
  refused_input reading why events gave job stopped = record {
    given = events;
    written = [];
    split = sym (append-nil events);
    reads = inputs_in_order line.units line.calls reading (journal_to_read line.replayed) events gave;
    follows = inr (Stops why, (reading, events, [], sym (append-nil events), gave, no_more line.replayed reading, job), (refl, stopped));
  }

  -- the units and the calls file are not all read
  pub inputs_stopped : (stop : InputStop) (events : List Event) → TriesInputs line.units line.calls stop events
      → StopsQuietly old new Stopped (reason_of (stop_for stop)) → Passed events
  inputs_stopped (input.Unread name) events gave stopped =
      refused_input (NotThere (string_bytes name)) (Unread (string_bytes name)) events gave refl stopped
  inputs_stopped (input.UnitTooLong name) events gave stopped =
      refused_input (LongUnit (string_bytes name)) (Refused (string_bytes name) cause.TooLong) events gave refl stopped
  inputs_stopped input.CallsTooLong events gave stopped = refused_input LongCalls CallsTooLong events gave refl stopped
  inputs_stopped input.Memory events reads stopped = record {
    given = events;
    written = [];
    split = sym (append-nil events);
    reads = subst (λ (files : List (Name × ℕ)). ReadsInOrder files events)
        (append_assoc (limited most_unit_bytes line.units) ((line.calls, most_calls_bytes) ∷ []) (journal_to_read line.replayed))
        (longer (limited most_unit_bytes line.units ++ (line.calls, most_calls_bytes) ∷ []) (journal_to_read line.replayed) events reads);
    follows = inl (refl, stopped);
  }
  inputs_stopped _ events gave stopped = absurd gave

  -- all are read
  module _ (texts : List (List ℕ)) (text : List ℕ) (first : List Event)
      (gave : GivesInputs line.units line.calls (AllRead texts text) first) where
    -- the hosts that were handed in
    pub handed_passed : line.replayed ≡ None → (last : List Event) → WritesOfTexts m hosts line texts text old new Ends Stopped last
        → Passed (first ++ last)
    handed_passed none last writes = record {
      given = first;
      written = last;
      split = refl;
      reads = inputs_in_order line.units line.calls (AllRead texts text) (journal_to_read line.replayed) first gave;
      follows = elim writes [
        | inl wanting ↦ inl wanting
        | inr (job, is, of) ↦ inr (
          job,
          (AllRead texts text, first, [], sym (append-nil first), gave, no_more line.replayed (AllRead texts text), rw none is),
          behind job of,
        )
      ];
    }
      where
        behind : (job : Job) → WritesOfTextsJob m hosts line old new Ends Stopped job last
            → WritesOfRun m hosts line old new Ends Stopped first job last
        behind (Run units calls steps shown) of = rw none of
        behind _ of = of

    -- the journal is read behind them
    module _ (name : Name) (named : line.replayed ≡ Some name) (middle : List Event) where
      in_order : ReadsFile most_journal_bytes name middle → ReadsInOrder (run_reads line) (first ++ middle)
      in_order read = subst
          (λ o. ReadsInOrder (limited most_unit_bytes line.units ++ (line.calls, most_calls_bytes) ∷ journal_to_read o) (first ++ middle))
          (sym named) (journal_in_order line.units line.calls texts text name first middle gave read)

      asked : (reading : JournalReading) (job : Job) → GivesJournal name reading middle → IsReplayJob line name texts text reading job
          → IsRunJobOver line (hosts_of m hosts) (first ++ middle) job
      asked reading job gives of = (
        AllRead texts text,
        first,
        middle,
        refl,
        gave,
        subst (λ o. ReadsMore o (AllRead texts text) middle) (sym named) tt,
        subst (λ o. MatchOption o (IsTextsJob line (symbols_of (hosts_of m hosts)) texts text job)
            (λ n. (r : JournalReading) × GivesJournal n r middle × IsReplayJob line n texts text r job)) (sym named) (reading, gives, of),
      )

      refused : (reading : JournalReading) (why : Reason) → GivesJournal name reading middle
          → IsReplayJob line name texts text reading (Stops why) → StopsQuietly old new Stopped why → Passed (first ++ middle)
      refused reading why gives of stopped = record {
        given = first ++ middle;
        written = [];
        split = sym (append-nil (first ++ middle));
        reads = in_order (journal_read name reading middle gives);
        follows = inr (Stops why, asked reading (Stops why) gives of, (refl, stopped));
      }

      -- it is not read, or refused
      pub replay_stopped : (why : Reason) → TriesReplay name why middle → StopsQuietly old new Stopped why → Passed (first ++ middle)
      replay_stopped (Unread file) (file_is, gives) stopped =
          refused NoJournal (Unread file) gives (ap (λ f. Stops (Unread f)) file_is) stopped
      replay_stopped JournalTooLong gives stopped = refused LongJournal JournalTooLong gives refl stopped
      replay_stopped (JournalLine number) (journal, gives, line_is) stopped =
          refused (Held journal) (JournalLine number) gives (inr (number, line_is, refl)) stopped
      replay_stopped WantOfMemory read stopped = record {
        given = first ++ middle;
        written = [];
        split = sym (append-nil (first ++ middle));
        reads = in_order read;
        follows = inl (refl, stopped);
      }
      replay_stopped _ tried stopped = absurd tried

      -- hosts that reply again what it says
      pub replayed_passed : (replays : List ReplayHost) → GivesReplays name replays middle → (last : List Event)
          → WritesOfTexts replaying replays line texts text old new Ends Stopped last → Passed ((first ++ middle) ++ last)
      replayed_passed replays (j, (journal, gives, is_journal), are) last writes = record {
        given = first ++ middle;
        written = last;
        split = refl;
        reads = in_order (journal_read name (Held journal) middle gives);
        follows = elim writes [
          | inl wanting ↦ inl wanting
          | inr (job, is, of) ↦
              let here = subst (λ hs. IsTextsJob line (symbols_of hs) texts text job) (hosts_same j replays are) is in
              inr (job, asked (Held journal) job gives (inl (j, is_journal, here)), behind job of)
        ];
      }
        where
          behind : (job : Job) → WritesOfTextsJob replaying replays line old new Ends Stopped job last
              → WritesOfRun m hosts line old new Ends Stopped (first ++ middle) job last
          behind (Run units calls steps shown) of =
              subst (λ o. WithHostsBy m hosts o (IsReadLast (first ++ middle))
              (λ G n gs. WritesRun n gs line.journal units calls steps shown old new Ends Stopped last)) (sym named)
              (j, replays, (journal, (first, middle, refl, gives), is_journal), are, of)
          behind _ of = of

-- the units and the calls file gave their texts, and the journal its hosts
abbrev pub ReadsBoth : RunLine → List (List ℕ) → List ℕ → Name → List ReplayHost → List Event → Type 0
ReadsBoth line texts text name replays events = (first : List Event) × (middle : List Event) × (events ≡ first ++ middle)
    × GivesInputs line.units line.calls (AllRead texts text) first × GivesReplays name replays middle

pub replayed_both : {H : Type 0} (m : HostModule H) (hosts : List H) (line : RunLine) (old new : Option (List ℕ)) (Ends : ℕ → Type 0)
    (Stopped : Reason → Type 0) (texts : List (List ℕ)) (text : List ℕ) (name : Name) → line.replayed ≡ Some name
    → (replays : List ReplayHost) (given last : List Event) → ReadsBoth line texts text name replays given
    → WritesOfTexts replaying replays line texts text old new Ends Stopped last
    → PassesRun m hosts line old new Ends Stopped (given ++ last)
replayed_both m hosts line old new Ends Stopped texts text name named replays given last (first, middle, is, gave, replay) writes =
    rw is (replayed_passed m hosts line old new Ends Stopped texts text first gave name named middle replays replay last writes)

-- ---- what words ask for

-- this holds of the hosts that a run is with, and so does that
pub with_so : {H : Type 0} (m : HostModule H) (hosts : List H) (replayed : Option Name) (Reads : Name → JournalReading → Type 0)
    (P Q : (G : Type 0) → HostModule G → List G → Type 0) → ((G : Type 0) (n : HostModule G) (gs : List G) → P G n gs → Q G n gs)
    → WithHostsBy m hosts replayed Reads P → WithHostsBy m hosts replayed Reads Q
with_so m hosts None Reads P Q so of = so _ m hosts of
with_so m hosts (Some name) Reads P Q so (j, replays, journal, are, of) = (j, replays, journal, are, so _ _ replays of)

-- it is enough that a call ends as is asked, and stops as is asked
module _ {H : Type 0} (m : HostModule H) (hosts : List H) (old new : Option (List ℕ)) (Ends Ends' : ℕ → Type 0)
    (Stopped Stopped' : Reason → Type 0) (ends : (status : ℕ) → Ends status → Ends' status)
    (stops : (why : Reason) → Stopped why → Stopped' why) where
  run_so : {G : Type 0} (n : HostModule G) (gs : List G) (journal : Option Name) (units : List (List tree.Item)) (calls : List SymbolCall)
      (steps : ℕ) (shown : Bool) (written : List Event) → WritesRun n gs journal units calls steps shown old new Ends Stopped written
      → WritesRun n gs journal units calls steps shown old new Ends' Stopped' written
  run_so n gs journal units calls steps shown written (inl w) = inl (record { status = w.status; run = w.run; ends = go w.ends })
    where
      go : (WritesJournal journal (journal_of n gs w.run.asks) written × Ends w.status)
          ⊎ ((why : WriteAnswer) × BreaksJournal journal (journal_of n gs w.run.asks) why written × Stopped (reason_for why))
          → (WritesJournal journal (journal_of n gs w.run.asks) written × Ends' w.status)
          ⊎ ((why : WriteAnswer) × BreaksJournal journal (journal_of n gs w.run.asks) why written × Stopped' (reason_for why))
      go (inl (whole, ended)) = inl (whole, ends w.status ended)
      go (inr (why, broken, stopped)) = inr (why, broken, stops (reason_for why) stopped)
  run_so n gs journal units calls steps shown written (inr (part, nothing, inl stopped)) =
      inr (part, nothing, inl (stops Unwritten stopped))
  run_so n gs journal units calls steps shown written (inr (part, nothing, inr stopped)) =
      inr (part, nothing, inr (stops WantOfMemory stopped))

  of_run_so : (line : RunLine) (given : List Event) (job : Job) (written : List Event)
      → WritesOfRun m hosts line old new Ends Stopped given job written → WritesOfRun m hosts line old new Ends' Stopped' given job written
  of_run_so line given (Stops why) written (nothing, (quiet, stopped)) = (nothing, (quiet, stops why stopped))
  of_run_so line given (Run units calls steps shown) written of = with_so m hosts line.replayed (IsReadLast given)
      (λ G n gs. WritesRun n gs line.journal units calls steps shown old new Ends Stopped written)
      (λ G n gs. WritesRun n gs line.journal units calls steps shown old new Ends' Stopped' written)
      (λ G n gs. run_so n gs line.journal units calls steps shown written) of
  of_run_so line given (Write output unit) written of = absurd of

  pub line_so : (line : Line) (events : List Event) → PassesLine m hosts line old new Ends Stopped events
      → PassesLine m hosts line old new Ends' Stopped' events
  line_so (runs line) events p = by_so (run_reads line) (IsRunJobOver line (hosts_of m hosts))
      (WritesOfRun m hosts line old new Ends Stopped) (WritesOfRun m hosts line old new Ends' Stopped') (StopsQuietly old new Stopped)
      (StopsQuietly old new Stopped') (of_run_so line) (λ w. (w.0, stops WantOfMemory w.1)) events p
  line_so (merges line) events (same, p) =
      (same, units_so Ends Ends' Stopped Stopped' ends stops line.units (IsMerged line (symbols_of (hosts_of m hosts))) events p)
  line_so (trims line) events (same, p) =
      (same, units_so Ends Ends' Stopped Stopped' ends stops (line.unit ∷ []) (IsTrimmedText line) events p)

  pub words_so : (words : List Name) (events : List Event) → PassesWords m hosts words old new Ends Stopped events
      → PassesWords m hosts words old new Ends' Stopped' events
  words_so words events = go (line_of words)
    where
      Of : (ℕ → Type 0) → (Reason → Type 0) → Option Line → Type 0
      Of E S o = MatchOption o ((events ≡ []) × (new ≡ old) × (S Usage ⊎ S WantOfMemory))
          (λ line. PassesLine m hosts line old new E S events)

      go : (o : Option Line) → Of Ends Stopped o → Of Ends' Stopped' o
      go None (nothing, quiet, inl usage) = (nothing, quiet, inl (stops Usage usage))
      go None (nothing, quiet, inr memory) = (nothing, quiet, inr (stops WantOfMemory memory))
      go (Some line) p = line_so line events p

module _ {H : Type 0} (m : HostModule H) (hosts : List H) (words : List Name) (old new : Option (List ℕ)) (Ends : ℕ → Type 0)
    (Stopped : Reason → Type 0) where
  abbrev Of : List Event → Option Line → Type 0
  Of events o = MatchOption o ((events ≡ []) × (new ≡ old) × (Stopped Usage ⊎ Stopped WantOfMemory))
      (λ line. PassesLine m hosts line old new Ends Stopped events)

  pub line_passed : (line : Line) → line_of words ≡ Some line → (events : List Event) → PassesLine m hosts line old new Ends Stopped events
      → PassesWords m hosts words old new Ends Stopped events
  line_passed line is events p = subst (Of events) (sym is) p

  pub usage_passed : line_of words ≡ None → new ≡ old → Stopped Usage → PassesWords m hosts words old new Ends Stopped []
  usage_passed none same stopped = subst (Of []) (sym none) (refl, same, inl stopped)

  -- memory is wanting before anything is read
  pub words_wanting : new ≡ old → Stopped WantOfMemory → PassesWords m hosts words old new Ends Stopped []
  words_wanting same stopped = go (line_of words)
    where
      go : (o : Option Line) → Of [] o
      go None = (refl, same, inr stopped)
      go (Some (runs line)) = record { given = []; written = []; split = refl; reads = tt; follows = inl (refl, (same, stopped)) }
      go (Some (merges line)) = (same, record { given = []; written = []; split = refl; reads = tt; follows = inl (refl, stopped) })
      go (Some (trims line)) = (same, record { given = []; written = []; split = refl; reads = tt; follows = inl (refl, stopped) })

-- the status and the line of a reason
pub stopped_for : (status : ℕ) (Said : List ℕ → Type 0) (why : Reason) → (status ≡ status_of why) ⊎ (status ≡ 5)
    → Said (error_line why) ⊎ (status ≡ 5) → StopsFor status Said why
stopped_for status Said why (inr five) says = inr five
stopped_for status Said why (inl is) (inr five) = inr five
stopped_for status Said why (inl is) (inl said) = inl (is, said)
