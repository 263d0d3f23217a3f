-- Over files that behave as files what passed says what a call comes to over what they hold.
use Rattle.crun_cli.proofs.Common.{if◌then◌else◌, ◌≡◌, ℕ, ◌≤◌, Bool, true, false, ◌&&◌, ◌⊎◌, List, [], ◌∷◌, ◌++◌, length, Some, None, sym}
use Rattle.crun_cli.proofs.Common.{Option, MatchOption, option_and_then, refl, ap, ◌∙◌, subst, inl, inr, append-nil, arith, Host, Contents}
use Rattle.crun_cli.proofs.Common.{Name, Told, holding, BreaksOff, WritesFile, Tells, WriteAnswer, first_in_order, FailsLast, ReadsInOrder}
use Rattle.crun_cli.proofs.Common.{limited, IsBegun, print_of, SymbolCall, hosts_of, HostModule, Recorded, journal_text, Line, RunLine, Job}
use Rattle.crun_cli.proofs.Common.{line_of, merges, runs, trims, AllRead, Held, IsJournalReading, IsReading, IsUnitsReading, JournalReading}
use Rattle.crun_cli.proofs.Common.{LongJournal, NoJournal, NoUnit, NotThere, Reading, UnitTooLong, UnitsRead, UnitsReading, most_unit_bytes}
use Rattle.crun_cli.proofs.Common.{GivesJournal, IsTextsJob, Run, Stops, Write, Reason, Unread, Unwritten, Usage, WantOfMemory, error_line}
use Rattle.crun_cli.proofs.Common.{status_of, IsBehindUnits, IsMerged, IsTrimmedText, IsUnitsJob, IsUnitsJobOver, PassesUnits, WritesOutput}
use Rattle.crun_cli.proofs.Common.{reason_for, RunsAgain, Begun, BegunIfAny, By_refusal, Finished, HasPlayed, HasPlayedPart, IsAnswered}
use Rattle.crun_cli.proofs.Common.{IsJobWith, IsJournaled, IsKept, IsRunStatus, WithHosts, WithHostsBy, journal_of, IsToWrite, IsJob}
use Rattle.crun_cli.proofs.Common.{IsJobBy, IsLineJob, IsReplayJob, IsRunJob, symbols_of, IsUntouched, Outside, BreaksJournal, IsReadLast}
use Rattle.crun_cli.proofs.Common.{IsRunJobOver, PassesFor, PassesLine, PassesRun, ReadsMore, StopsFor, WritesJournal, WritesOfRun}
use Rattle.crun_cli.proofs.Common.{WritesRun, run_reads}
use Rattle.w2c_io.specs.Events.{Event}
use Rattle.w2c_io.specs.Honest.{AreHonest}
use Rattle.w2c_io.specs.declared.answers.WriteAnswer.TheVariants as answer
use Rattle.w2c_files.specs.CFile.{is_c_file}
use Rattle.c_tree.specs.Tree as tree
use Rattle.crun_words.specs.Command.{Values, values_of}
use Rattle.crun_words.specs.CommandLine.{are_units, is_no_run, line_by, line_of_merge, line_of_trim, line_of_values, merge_of, run_with}
use Rattle.crun_words.specs.CommandLine.{trim_of}
use Rattle.w2c_files.proofs.Honest.{file_begun, file_holds, honest_both, in_order_keep, fails_behind}
use Rattle.crun_words.proofs.Honest.{FailsInputs, FailsJournal, FailsUnits, inputs_honest, journal_held, journal_honest, units_honest}
use Rattle.crun_cli.specs.HonestPassing.{PassesHonestly}
use Rattle.crun_cli.proofs.RecordLaws.{ran_status}
use Rattle.crun_cli.proofs.TopLaws.{begun_apart, decided, done_again, done_apart, done_complete, of_status_3, of_status_4, stop_apart}
use Rattle.crun_cli.proofs.TopLaws.{usage_job, written_by_no_run}

-- ---- a line names no more than 16 units

abbrev HasFew : Line → Type 0
HasFew (runs line) = length line.units ≤ 16
HasFew (merges line) = length line.units ≤ 16
HasFew (trims line) = Unit {0}

by_if : (b : Bool) (line other : Line) → ◌≡◌ {A = Option Line} (if b then Some line else None) (Some other) → (b ≡ true) × (line ≡ other)
by_if true line other is = (refl, cc)
by_if false line other is = absurd cc

in_if : (b : Bool) (o : Option Line) (line : Line) → ◌≡◌ {A = Option Line} (if b then o else None) (Some line) → o ≡ Some line
in_if true o line is = is
in_if false o line is = absurd cc

few_units : (units : List Name) → are_units units ≡ true → length units ≤ 16
few_units units is = grind (arith, is)

few_and : (b : Bool) (units : List Name) → (b && are_units units) ≡ true → length units ≤ 16
few_and true units is = few_units units is
few_and false units is = absurd cc

few_run : (steps : Option ℕ) (calls : Option Name) (v : Values) (line : Line) → run_with steps calls v ≡ Some line → HasFew line
few_run (Some steps) (Some calls) v line is =
    let found = by_if (are_units v.units) _ line is in subst HasFew found.1 (few_units v.units found.0)
few_run _ _ v line is = absurd cc

few_merge : (output : Name) (v : Values) (line : Line) → line_of_merge output v ≡ Some line → HasFew line
few_merge output v line is =
    let found = by_if (is_c_file output && are_units v.units) _ line (in_if (is_no_run v) (merge_of output v.units) line is) in
    subst HasFew found.1 (few_and (is_c_file output) v.units found.0)

few_trim : (output : Name) (v : Values) (line : Line) → line_of_trim output v ≡ Some line → HasFew line
few_trim output v line is = go v.units (in_if (is_no_run v) (trim_of output v.units) line is)
  where
    go : (units : List Name) → trim_of output units ≡ Some line → HasFew line
    go [] is = absurd cc
    go (unit ∷ []) is = subst HasFew (by_if (is_c_file output) _ line is).1 tt
    go (unit ∷ other ∷ units) is = absurd cc

few_by : (merged trimmed : Option Name) (v : Values) (line : Line) → line_by merged trimmed v ≡ Some line → HasFew line
few_by None None v line is = few_run _ v.calls v line is
few_by (Some output) None v line is = few_merge output v line is
few_by None (Some output) v line is = few_trim output v line is
few_by (Some output) (Some other) v line is = absurd cc

few_of : (v : Option Values) (line : Line) → option_and_then line_of_values v ≡ Some line → HasFew line
few_of None line is = absurd cc
few_of (Some v) line is = few_by v.merged v.trimmed v line is

-- ---- the job over what the reads gave is the job over what the files hold, but where the last read failed

-- a file could not be read
abbrev Unreads : Job → List Event → Type 0
Unreads job given = (file : Name) × (job ≡ Stops (Unread file)) × FailsLast file given

fails_first : (file : Name) (first last given : List Event) → given ≡ first ++ last → last ≡ [] → FailsLast file first
    → FailsLast file given
fails_first file first last given split none (front, limit, is) =
    (front, limit, split ∙ ap (λ (l : List Event). first ++ l) none ∙ append-nil first ∙ is)

none_more : (replayed : Option Name) (file : Name) (last : List Event) → ReadsMore replayed (NotThere file) last → last ≡ []
none_more None file last more = more
none_more (Some name) file last more = more

module _ (m : Contents) (line : RunLine) (handed : List Host) where
  -- behind the journal's file
  texts_behind : (o : Option Name) (texts : List (List ℕ)) (text : List ℕ) (last : List Event) (job : Job) (current : Option Name)
      (new : Told) (after : Option Name) → AreHonest last (Some m) current new after
      → MatchOption o (IsTextsJob line (symbols_of handed) texts text job)
      (λ name. (r : JournalReading) × GivesJournal name r last × IsReplayJob line name texts text r job)
      → MatchOption o (IsTextsJob line (symbols_of handed) texts text job)
      (λ name. (r : JournalReading) × IsJournalReading m name r × IsReplayJob line name texts text r job) ⊎ Unreads job last
  texts_behind None texts text last job current new after honest of = inl of
  texts_behind (Some name) texts text last job current new after honest (r, gives, of) =
      by r of (journal_honest m name r last current new after gives honest)
    where
      by : (r : JournalReading) → IsReplayJob line name texts text r job → IsJournalReading m name r ⊎ FailsJournal name r last
          → ((r : JournalReading) × IsJournalReading m name r × IsReplayJob line name texts text r job) ⊎ Unreads job last
      by r of (inl reads) = inl (r, reads, of)
      by NoJournal of (inr fails) = inr (name, of, fails)
      by (Held journal) of (inr fails) = absurd fails
      by LongJournal of (inr fails) = absurd fails

  by_behind : (r : Reading) (last : List Event) (job : Job) (current : Option Name) (new : Told) (after : Option Name)
      → AreHonest last (Some m) current new after → IsJobBy line handed (λ name j. GivesJournal name j last) r job
      → IsJobBy line handed (IsJournalReading m) r job ⊎ Unreads job last
  by_behind (AllRead texts text) last job current new after honest of =
      texts_behind line.replayed texts text last job current new after honest of
  by_behind _ last job current new after honest of = inl of

  run_job_honest : length line.units ≤ 16 → (given : List Event) (job : Job) (current : Option Name) (new : Told) (after : Option Name)
      → AreHonest given (Some m) current new after → IsRunJobOver line handed given job → IsRunJob line handed m job ⊎ Unreads job given
  run_job_honest few given job current new after honest (r, first, last, split, gives, more, of) =
      let both = honest_both first last (Some m) new current after (rw split at honest) in
      let found = inputs_honest m line.units few current both.0 both.1 line.calls r first gives both.2 in
      go r more of found.0
      (by_behind r last job both.1 new after (subst (λ (t : Told). AreHonest last t both.1 new after) found.1 both.3) of)
    where
      unread : (r : Reading) → ReadsMore line.replayed r last → IsJobBy line handed (λ name j. GivesJournal name j last) r job
          → FailsInputs r first → Unreads job given
      unread (NotThere file) more of fails =
          (file, of, fails_first file first last given split (none_more line.replayed file last more) fails)
      unread _ more of fails = absurd fails

      go : (r : Reading) → ReadsMore line.replayed r last → IsJobBy line handed (λ name j. GivesJournal name j last) r job
          → IsReading m line.units line.calls r ⊎ FailsInputs r first
          → IsJobBy line handed (IsJournalReading m) r job ⊎ Unreads job last → IsRunJob line handed m job ⊎ Unreads job given
      go r more of (inl is) (inl behind) = inl (r, is, behind)
      go r more of (inl is) (inr (file, job_is, fails)) = inr (file, job_is, fails_behind file first last given split fails)
      go r more of (inr fails) behind = inr (unread r more of fails)

units_job_honest : (m : Contents) (units : List Name) (IsOf : List (List ℕ) → Job → Type 0) → length units ≤ 16 → (given : List Event)
    (job : Job) (current : Option Name) (new : Told) (after : Option Name) → AreHonest given (Some m) current new after
    → IsUnitsJobOver units IsOf given job → IsUnitsJob m units IsOf job ⊎ Unreads job given
units_job_honest m units IsOf few given job current new after honest (r, gives, of) =
    by r of (units_honest m units few current new after r given gives honest).0
  where
    by : (r : UnitsReading) → IsBehindUnits IsOf r job → IsUnitsReading m units r ⊎ FailsUnits r given
        → IsUnitsJob m units IsOf job ⊎ Unreads job given
    by r of (inl reads) = inl (r, reads, of)
    by (NoUnit file) of (inr fails) = inr (file, of, fails)
    by (UnitsRead texts) of (inr fails) = absurd fails
    by (UnitTooLong file) of (inr fails) = absurd fails

-- a run has the line's number of statements, and shows the state where the line does
run_steps : (m : Contents) (line : RunLine) (handed : List Host) (units : List (List tree.Item)) (calls : List SymbolCall) (steps : ℕ)
    (shown : Bool) → IsRunJob line handed m (Run units calls steps shown)
    → Run units calls steps shown ≡ Run units calls line.steps line.shows_state
run_steps m line handed units calls steps shown (AllRead texts text, is, of) = by line.replayed of
  where
    by : (o : Option Name) → MatchOption o (IsTextsJob line (symbols_of handed) texts text (Run units calls steps shown))
        (λ name. (r : JournalReading) × IsJournalReading m name r × IsReplayJob line name texts text r (Run units calls steps shown))
        → Run units calls steps shown ≡ Run units calls line.steps line.shows_state
    by None of = (λ i. Run units calls (of.2 i) (of.3 i))
    by (Some name) (Held journal, is, inl (j, is_journal, of)) = (λ i. Run units calls (of.2 i) (of.3 i))
    by (Some name) (Held journal, is, inr (k, refused, of)) = absurd cc
    by (Some name) (_, is, of) = absurd cc
run_steps m line handed units calls steps shown (_, is, of) = absurd cc

-- ---- no words ask for a line that is not written

module _ (handed : List Host) (m : Contents) where
  run_is_no_fault : (line : RunLine) → IsRunJob line handed m (Stops Unwritten) → ⊥
  run_is_no_fault line (AllRead texts text, is, of) = by line.replayed of
    where
      by : (o : Option Name) → MatchOption o (IsTextsJob line (symbols_of handed) texts text (Stops Unwritten))
          (λ name. (r : JournalReading) × IsJournalReading m name r × IsReplayJob line name texts text r (Stops Unwritten)) → ⊥
      by None of = of
      by (Some name) (Held journal, is, inl (j, is_journal, of)) = of
      by (Some name) (Held journal, is, inr (k, refused, of)) = absurd cc
      by (Some name) (_, is, of) = absurd cc
  run_is_no_fault line (_, is, of) = absurd cc

  line_is_no_fault : (form : Line) → IsLineJob handed m form (Stops Unwritten) → ⊥
  line_is_no_fault (runs line) of = run_is_no_fault line of
  line_is_no_fault (merges line) (UnitsRead texts, read, inl (units, linked, is)) = absurd cc
  line_is_no_fault (merges line) (UnitsRead texts, read, inr (number, file, why, at, refused, is)) = absurd cc
  line_is_no_fault (merges line) (_, read, is) = absurd cc
  line_is_no_fault (trims line) (UnitsRead texts, read, inl (unit, trimmed, are, is_trimmed, is)) = absurd cc
  line_is_no_fault (trims line) (UnitsRead texts, read, inr (number, why, refused, is)) = absurd cc
  line_is_no_fault (trims line) (_, read, is) = absurd cc

no_fault_asked : (words : List Name) (handed : List Host) (m : Contents) → IsJob words handed m (Stops Unwritten) → ⊥
no_fault_asked words handed m = by (line_of words)
  where
    by : (o : Option Line) → MatchOption o (Stops Unwritten ≡ Stops Usage) (λ line. IsLineJob handed m line (Stops Unwritten)) → ⊥
    by None is = absurd cc
    by (Some form) of = line_is_no_fault handed m form of

-- ---- what the call comes to

-- by its status: a run or a unit, a refusal, a file that could not be read, a line or a file that is not written, want of memory
pub data Came {H : Type 0} (hm : HostModule H) (hosts : List H) (words : List Name) (m : Contents) (old new : Outside) (status : ℕ)
    (Said : List ℕ → Type 0) (events : List Event) : Type 0 where
  Done : IsRunStatus status → Finished hm hosts words m old new status → Came hm hosts words m old new status Said events
  Refuses : (why : Reason) → status ≡ status_of why → Said (error_line why) → IsJobWith hm hosts words m (Stops why)
      → IsUntouched old new → Came hm hosts words m old new status Said events
  Fails : (file : Name) → status ≡ 3 → Said (error_line (Unread file)) → FailsLast file events → IsUntouched old new
      → Came hm hosts words m old new status Said events
  Breaks : status ≡ 4 → Said (error_line Unwritten) → Begun hm hosts words m old new → Came hm hosts words m old new status Said events
  Wants : status ≡ 5 → BegunIfAny hm hosts words m old new → Came hm hosts words m old new status Said events

-- what a run is with, and whatever else holds of these hosts
with_case : {H : Type 0} (hm : HostModule H) (hosts : List H) (m : Contents) (o : Option Name)
    (Q : (G : Type 0) → HostModule G → List G → Type 0) (C : Type 0)
    → ((G : Type 0) (n : HostModule G) (gs : List G) → Q G n gs
    → ((P : (K : Type 0) → HostModule K → List K → Type 0) → P G n gs → WithHosts hm hosts o m P) → C)
    → WithHosts hm hosts o m Q → C
with_case hm hosts m None Q C so of = so _ hm hosts of (λ P p. p)
with_case hm hosts m (Some name) Q C so (j, replays, held, are, of) = so _ _ replays of (λ P p. (j, replays, held, are, p))

module _ {H : Type 0} (hm : HostModule H) (hosts : List H) (words : List Name) (m : Contents) (old new : Outside)
    (told : old.files.told ≡ Some m) (status : ℕ) (Said : List ℕ → Type 0) (events : List Event) where
  abbrev Comes : Type 0
  Comes = Came hm hosts words m old new status Said events

  there : (form : Line) → line_of words ≡ Some form → (job : Job) → IsLineJob (hosts_of hm hosts) m form job
      → IsJobWith hm hosts words m job
  there form is job of = subst (λ o. MatchOption o (job ≡ Stops Usage) (λ l. IsLineJob (hosts_of hm hosts) m l job)) (sym is) of

  stops : (why : Reason) → IsJobWith hm hosts words m (Stops why) → IsUntouched old new → StopsFor status Said why → Comes
  stops why job same (inl (is, said)) = Refuses why is said job same
  stops why job same (inr five) = Wants five (inl same)

  fails : (file : Name) → FailsLast file events → IsUntouched old new → StopsFor status Said (Unread file) → Comes
  fails file last same (inl (is, said)) = Fails file is said last same
  fails file last same (inr five) = Wants five (inl same)

  wants : BegunIfAny hm hosts words m old new → StopsFor status Said WantOfMemory → Comes
  wants begun (inl (is, said)) = Wants is begun
  wants begun (inr five) = Wants five begun

  breaks : (why : WriteAnswer) → Begun hm hosts words m old new → StopsFor status Said (reason_for why) → Comes
  breaks answer.Failed begun (inl (is, said)) = Breaks is said begun
  breaks answer.Failed begun (inr five) = Wants five (inr begun)
  breaks answer.Memory begun stopped = wants (inr begun) stopped

  -- the reads changed nothing
  read_apart : (files : List (Name × ℕ)) (given written : List Event) → ReadsInOrder files given → events ≡ given ++ written
      → AreHonest events old.files.told old.files.current new.files.told new.files.current
      → (middle : Told) × (name : Option Name) × AreHonest given (Some m) old.files.current middle name
      × AreHonest written old.files.told old.files.current new.files.told new.files.current
  read_apart files given written reads split honest =
      let (middle, name, first, last) = honest_both given written old.files.told new.files.told old.files.current new.files.current
      (subst (λ (l : List Event). AreHonest l old.files.told old.files.current new.files.told new.files.current) split honest) in
      let (same, current) = in_order_keep files given old.files.told middle old.files.current name reads first in (
        middle,
        name,
        subst (λ (t : Told). AreHonest given t old.files.current middle name) told first,
        subst (λ (t : Told). AreHonest written t old.files.current new.files.told new.files.current) same
            (subst (λ (n : Option Name). AreHonest written middle n new.files.told new.files.current) current last),
      )

  -- behind the reads
  module _ (written : List Event) (honest : AreHonest written old.files.told old.files.current new.files.told new.files.current) where
    none_written : written ≡ [] → (new.files.told ≡ old.files.told) × (new.files.current ≡ old.files.current)
    none_written none = rw none at honest

    untouched : written ≡ [] → new.out.told ≡ old.out.told → IsUntouched old new
    untouched none quiet =
        record { files = record { told = (none_written none).0; current = (none_written none).1 }; lines = quiet }

    file_written : (name : Name) (text : List ℕ) → WritesFile name text written → new.files.told ≡ holding old.files.told name text
    file_written name text writes =
        file_holds name text written old.files.told new.files.told old.files.current new.files.current writes honest

    file_part : (name : Name) (text : List ℕ) (why : WriteAnswer) → BreaksOff name text why written
        → IsBegun old.files.told new.files.told name text
    file_part name text why broken =
        file_begun name text why written old.files.told new.files.told old.files.current new.files.current broken honest

    unit_comes : (form : Line) → line_of words ≡ Some form → new.out.told ≡ old.out.told → (job : Job)
        → IsLineJob (hosts_of hm hosts) m form job → WritesOutput (λ s. status ≡ s) (StopsFor status Said) job written → Comes
    unit_comes form is quiet (Stops why) job (none, stopped) = stops why (there form is (Stops why) job) (untouched none quiet) stopped
    unit_comes form is quiet (Write output unit) job (inl (writes, spells, ended)) =
        let asks = there form is (Write output unit) job in
        let put = file_written output (print_of unit) writes in
        Done (inl ended) (inr (ended, record { output = output; unit = unit; job = asks; spells = spells; written = put; nothing = quiet }))
    unit_comes form is quiet (Write output unit) job (inr (why, broken, stopped)) =
        let asks = there form is (Write output unit) job in
        let begun = file_part output (print_of unit) why broken in
        breaks why (inr (record { output = output; unit = unit; job = asks; begun = begun; nothing = quiet })) stopped
    unit_comes form is quiet (Run units calls steps shown) job of = absurd of

    journaled : (journal : Option Name) (j : Recorded) → WritesJournal journal j written
        → IsJournaled journal j old.files.told new.files.told
    journaled None j writes = (none_written writes).0
    journaled (Some name) j (writes, is) = (file_written name (journal_text j) writes, is)

    -- a part of it, or nothing
    journal_begun : (journal : Option Name) (j : Recorded) (why : WriteAnswer) → BreaksJournal journal j why written
        → (name : Name) × (journal ≡ Some name) × IsBegun old.files.told new.files.told name (journal_text j)
    journal_begun None j why broken = absurd broken
    journal_begun (Some name) j why (inl (none, memory)) = (name, refl, inl (none_written none).0)
    journal_begun (Some name) j why (inr broken) = (name, refl, file_part name (journal_text j) why broken)

    -- a run with the line's number of statements, and with these hosts
    module _ (line : RunLine) (is : line_of words ≡ Some (runs line)) (units : List (List tree.Item)) (calls : List SymbolCall)
        (asks : IsJobWith hm hosts words m (Run units calls line.steps line.shows_state)) {G : Type 0} (n : HostModule G) (gs : List G)
        (keep : (P : (K : Type 0) → HostModule K → List K → Type 0) → P G n gs → WithHosts hm hosts line.replayed m P) where
      run_begun : HasPlayedPart n gs line units calls old new → Begun hm hosts words m old new
      run_begun part = inl (line, units, calls, is, asks, keep (λ K k ks. HasPlayedPart k ks line units calls old new) part)

      run_done : (s : ℕ) → status ≡ s → HasPlayed n gs line units calls old new s → Comes
      run_done s ended played =
          let held = keep (λ K k ks. HasPlayed k ks line units calls old new status)
          (subst (HasPlayed n gs line units calls old new) (sym ended) played) in
          Done (subst IsRunStatus (sym ended) (ran_status played.run)) (inl (line, units, calls, is, asks, held))

      run_ends : WritesRun n gs line.journal units calls line.steps line.shows_state old.out.told new.out.told (λ s. status ≡ s)
          (StopsFor status Said) written → Comes
      run_ends (inl w) = elim w.ends [
        | inl (writes, ended) ↦
            let holds = journaled line.journal (journal_of n gs w.run.asks) writes in
            run_done w.status ended (record { run = w.run; written = holds })
        | inr (why, broken, stopped) ↦
            let (name, named, begun) = journal_begun line.journal (journal_of n gs w.run.asks) why broken in
            breaks why (run_begun (inr (record { status = w.status; run = w.run; name = name; named = named; begun = begun }))) stopped
      ]
      run_ends (inr (part, none, inl stopped)) = breaks answer.Failed (run_begun (inl (part, (none_written none).0))) stopped
      run_ends (inr (part, none, inr stopped)) = breaks answer.Memory (run_begun (inl (part, (none_written none).0))) stopped

  -- hosts of a journal that was read last are those of the journal that the file holds
  with_honest : (o : Option Name) (files : List (Name × ℕ)) (given : List Event) (middle : Told) (name : Option Name)
      → ReadsInOrder files given → AreHonest given (Some m) old.files.current middle name
      → (P : (G : Type 0) → HostModule G → List G → Type 0) → WithHostsBy hm hosts o (IsReadLast given) P → WithHosts hm hosts o m P
  with_honest None files given middle name reads honest P of = of
  with_honest (Some journal) files given middle name reads honest P
      (j, replays, (text, (first, last, split, gives), is_journal), are, of) =
      let both = honest_both first last (Some m) middle old.files.current name (rw split at honest) in
      let kept = in_order_keep files first (Some m) both.0 old.files.current both.1
      (first_in_order files first last (subst (ReadsInOrder files) split reads)) both.2 in
      let held = journal_held m journal text last both.1 middle name gives (rw kept.0 at both.3) in
      (j, replays, (text, held, is_journal), are, of)

  run_comes : (line : RunLine) → line_of words ≡ Some (runs line) → (given written : List Event) (middle : Told) (name : Option Name)
      → ReadsInOrder (run_reads line) given → AreHonest given (Some m) old.files.current middle name
      → AreHonest written old.files.told old.files.current new.files.told new.files.current
      → (job : Job) → IsRunJob line (hosts_of hm hosts) m job
      → WritesOfRun hm hosts line old.out.told new.out.told (λ s. status ≡ s) (StopsFor status Said) given job written → Comes
  run_comes line is given written middle name reads honest behind (Stops why) job (none, (quiet, stopped)) =
      stops why (there (runs line) is (Stops why) job) (untouched written behind none quiet) stopped
  run_comes line is given written middle name reads honest behind (Run units calls steps shown) job of =
      let same = run_steps m line (hosts_of hm hosts) units calls steps shown job in
      let asks = there (runs line) is (Run units calls line.steps line.shows_state)
      (subst (λ (j : Job). IsRunJob line (hosts_of hm hosts) m j) same job) in
      let P : (G : Type 0) → HostModule G → List G → Type 0 = λ G n gs. WritesRun n gs line.journal units calls line.steps
      line.shows_state old.out.told new.out.told (λ s. status ≡ s) (StopsFor status Said) written in
      let writes = subst (λ (j : Job). WritesOfRun hm hosts line old.out.told new.out.told (λ s. status ≡ s) (StopsFor status Said) given j
      written) same of in
      with_case hm hosts m line.replayed P Comes (λ G n gs w keep. run_ends written behind line is units calls asks n gs keep w)
      (with_honest line.replayed (run_reads line) given middle name reads honest P writes)
  run_comes line is given written middle name reads honest behind (Write output unit) job of = absurd of

  pub comes : AreHonest events old.files.told old.files.current new.files.told new.files.current
      → PassesFor hm hosts words old.out.told new.out.told status Said events → Comes
  comes honest = go (line_of words) refl
    where
      Of : Option Line → Type 0
      Of o = MatchOption o ((events ≡ []) × (new.out.told ≡ old.out.told)
          × (StopsFor status Said Usage ⊎ StopsFor status Said WantOfMemory))
          (λ line. PassesLine hm hosts line old.out.told new.out.told (λ s. status ≡ s) (StopsFor status Said) events)

      units_come : (form : Line) → line_of words ≡ Some form → (units : List Name) (IsOf : List (List ℕ) → Job → Type 0)
          → length units ≤ 16 → ((job : Job) → IsUnitsJob m units IsOf job → IsLineJob (hosts_of hm hosts) m form job)
          → new.out.told ≡ old.out.told → PassesUnits units IsOf (λ s. status ≡ s) (StopsFor status Said) events → Comes
      units_come form is units IsOf few jobs quiet p =
          let (middle, name, found, behind) = read_apart (limited most_unit_bytes units) p.given p.written p.reads p.split honest in
          elim p.follows [
            | inl (none, memory) ↦ wants (inl (untouched p.written behind none quiet)) memory
            | inr (job, asks, writes) ↦
                elim (units_job_honest m units IsOf few p.given job old.files.current middle name found asks) [
                  | inl of ↦ unit_comes p.written behind form is quiet job (jobs job of) writes
                  | inr (file, unread, last) ↦
                      let of = rw unread at writes in
                      fails file (fails_first file p.given p.written events p.split of.0 last) (untouched p.written behind of.0 quiet) of.1
                ]
          ]

      run_line : (line : RunLine) → line_of words ≡ Some (runs line)
          → PassesRun hm hosts line old.out.told new.out.told (λ s. status ≡ s) (StopsFor status Said) events → Comes
      run_line line is p =
          let few = few_of (values_of words) (runs line) is in
          let (middle, name, found, behind) = read_apart (run_reads line) p.given p.written p.reads p.split honest in
          elim p.follows [
            | inl (none, (quiet, memory)) ↦ wants (inl (untouched p.written behind none quiet)) memory
            | inr (job, asks, writes) ↦
                elim (run_job_honest m line (hosts_of hm hosts) few p.given job old.files.current middle name found asks) [
                  | inl of ↦ run_comes line is p.given p.written middle name p.reads found behind job of writes
                  | inr (file, unread, last) ↦
                      let of = rw unread at writes in
                      fails file (fails_first file p.given p.written events p.split of.0 last)
                      (untouched p.written behind of.0 of.1.0) of.1.1
                ]
          ]

      go : (o : Option Line) → line_of words ≡ o → Of o → Comes
      go None is (none, quiet, inl stopped) = stops Usage (usage_job hm hosts words m is) (untouched events honest none quiet) stopped
      go None is (none, quiet, inr memory) = wants (inl (untouched events honest none quiet)) memory
      go (Some (runs line)) is p = run_line line is p
      go (Some (merges line)) is (quiet, p) = units_come (merges line) is line.units
          (IsMerged line (symbols_of (hosts_of hm hosts))) (few_of (values_of words) (merges line) is) (λ job of. of) quiet p
      go (Some (trims line)) is (quiet, p) = units_come (trims line) is (line.unit ∷ []) (IsTrimmedText line) (omega arith)
          (λ job of. of) quiet p

-- ---- no file changes but the one that the words name for writing

module _ {H : Type 0} (hm : HostModule H) (hosts : List H) (words : List Name) (m : Contents) where
  -- the file of a unit that is asked for
  unit_to_write : (output : Name) (unit : List tree.Item) → IsJobWith hm hosts words m (Write output unit)
      → IsToWrite output (line_of words)
  unit_to_write output unit job = by (line_of words) refl job
    where
      by : (o : Option Line) → line_of words ≡ o → MatchOption o (Write output unit ≡ Stops Usage)
          (λ l. IsLineJob (hosts_of hm hosts) m l (Write output unit)) → IsToWrite output o
      by None none is = absurd cc
      by (Some (runs line)) is of = absurd (written_by_no_run hm hosts words m line output unit is job)
      by (Some (merges line)) is (UnitsRead texts, read, inl (units, linked, same)) = (let to : output ≡ line.output = cc in to)
      by (Some (merges line)) is (UnitsRead texts, read, inr (number, file, why, at, refused, same)) = absurd cc
      by (Some (merges line)) is (_, read, same) = absurd cc
      by (Some (trims line)) is (UnitsRead texts, read, inl (whole, trimmed, are, so, same)) = (let to : output ≡ line.output = cc in to)
      by (Some (trims line)) is (UnitsRead texts, read, inr (number, why, refused, same)) = absurd cc
      by (Some (trims line)) is (_, read, same) = absurd cc

  module _ (old new : Outside) where
    -- a file that is named for writing is begun
    begun_kept : (file : Name) (text : List ℕ) → IsToWrite file (line_of words) → IsBegun old.files.told new.files.told file text
        → IsKept words old new
    begun_kept file text named (inl same) = inl same
    begun_kept file text named (inr (part, prefix, is)) = inr (file, part, named, is)

    journal_kept : (o : Option Name) → ((file : Name) → o ≡ Some file → IsToWrite file (line_of words)) → (j : Recorded)
        → IsJournaled o j old.files.told new.files.told → IsKept words old new
    journal_kept None named j same = inl same
    journal_kept (Some file) named j written = inr (file, journal_text j, named file refl, written.0)

    finished_kept : (status : ℕ) → Finished hm hosts words m old new status → IsKept words old new
    finished_kept status (inl (line, units, calls, is, job, with)) =
        with_case hm hosts m line.replayed (λ G n gs. HasPlayed n gs line units calls old new status) (IsKept words old new)
        (λ G n gs played keep. journal_kept line.journal (λ file named. subst (IsToWrite file) (sym is) named)
        (journal_of n gs played.run.asks) played.written) with
    finished_kept status (inr (zero, wrote)) =
        inr (wrote.output, print_of wrote.unit, unit_to_write wrote.output wrote.unit wrote.job, wrote.written)

    part_of_it_kept : Begun hm hosts words m old new → IsKept words old new
    part_of_it_kept (inl (line, units, calls, is, job, with)) =
        with_case hm hosts m line.replayed (λ G n gs. HasPlayedPart n gs line units calls old new) (IsKept words old new)
        (λ G n gs part keep. elim part [
          | inl played ↦ inl played.1
          | inr j ↦
              begun_kept j.name (journal_text (journal_of n gs j.run.asks)) (subst (IsToWrite j.name) (sym is) j.named) j.begun
        ]) with
    part_of_it_kept (inr wrote) =
        begun_kept wrote.output (print_of wrote.unit) (unit_to_write wrote.output wrote.unit wrote.job) wrote.begun

-- ---- the clauses

module _ {H : Type 0} {hm : HostModule H} {hosts : List H} {words : List Name} {m : Contents} {old new : Outside} {status : ℕ}
    {Said : List ℕ → Type 0} (call : PassesHonestly hm hosts words m old new status Said) where
  came : Came hm hosts words m old new status Said call.events
  came = comes hm hosts words m old new call.told status Said call.events call.honest call.passes

  pub honest_untouched : (status ≡ 2) ⊎ (status ≡ 3) ⊎ (status ≡ 6) → IsUntouched old new
  honest_untouched ends = elim came [
    | Done run finished ↦ absurd (omega (arith, run, ends))
    | Refuses why is said job same ↦ same
    | Fails file is said last same ↦ same
    | Breaks is said begun ↦ absurd (omega (arith, is, ends))
    | Wants is begun ↦ absurd (omega (arith, is, ends))
  ]

  pub honest_finished : IsRunStatus status → Finished hm hosts words m old new status
  honest_finished run = elim came [
    | Done run finished ↦ finished
    | Refuses why is said job same ↦ absurd (stop_apart status why (inl is) run)
    | Fails file is said last same ↦ absurd (omega (arith, is, run))
    | Breaks is said begun ↦ absurd (omega (arith, is, run))
    | Wants is begun ↦ absurd (omega (arith, is, run))
  ]

  pub honest_refused : (status ≡ 2) ⊎ (status ≡ 6)
      → (why : Reason) × (status_of why ≡ status) × IsJobWith hm hosts words m (Stops why) × Said (error_line why)
  honest_refused ends = elim came [
    | Done run finished ↦ absurd (omega (arith, run, ends))
    | Refuses why is said job same ↦ (why, sym is, job, said)
    | Fails file is said last same ↦ absurd (omega (arith, is, ends))
    | Breaks is said begun ↦ absurd (omega (arith, is, ends))
    | Wants is begun ↦ absurd (omega (arith, is, ends))
  ]

  pub honest_missing : status ≡ 3 → (file : Name)
      × (IsJobWith hm hosts words m (Stops (Unread file)) ⊎ FailsLast file call.events) × Said (error_line (Unread file))
  honest_missing three = elim came [
    | Done run finished ↦ absurd (omega (arith, run, three))
    | Refuses why is said job same ↦
        let (file, is_unread) = of_status_3 why (sym is ∙ three) in
        let asks = subst (λ (w : Reason). IsJobWith hm hosts words m (Stops w)) is_unread job in
        (file, inl asks, subst (λ (w : Reason). Said (error_line w)) is_unread said)
    | Fails file is said last same ↦ (file, inr last, said)
    | Breaks is said begun ↦ absurd (omega (arith, is, three))
    | Wants is begun ↦ absurd (omega (arith, is, three))
  ]

  pub honest_write_fault : status ≡ 4 → Begun hm hosts words m old new × Said (error_line Unwritten)
  honest_write_fault four = elim came [
    | Done run finished ↦ absurd (omega (arith, run, four))
    | Refuses why is said job same ↦ absurd (no_fault_asked words (hosts_of hm hosts) m
        (subst (λ (w : Reason). IsJobWith hm hosts words m (Stops w)) (of_status_4 why (sym is ∙ four)) job))
    | Fails file is said last same ↦ absurd (omega (arith, is, four))
    | Breaks is said begun ↦ (begun, said)
    | Wants is begun ↦ absurd (omega (arith, is, four))
  ]

  pub honest_part : status ≡ 5 → BegunIfAny hm hosts words m old new
  honest_part five = elim came [
    | Done run finished ↦ absurd (omega (arith, run, five))
    | Refuses why is said job same ↦ inl same
    | Fails file is said last same ↦ inl same
    | Breaks is said begun ↦ absurd (omega (arith, is, five))
    | Wants is begun ↦ begun
  ]

  pub honest_answered : (status ≡ 4) ⊎ (status ≡ 5) ⊎ ((file : Name) × FailsLast file call.events) ⊎ IsAnswered hm hosts words m status
  honest_answered = elim came [
    | Done run finished ↦ elim (done_complete hm hosts words m old new status finished) [
      | inl five ↦ inr (inl five)
      | inr answered ↦ inr (inr (inr answered))
    ]
    | Refuses why is said job same ↦ inr (inr (inr (By_refusal why job is)))
    | Fails file is said last same ↦ inr (inr (inl (file, last)))
    | Breaks is said begun ↦ inl is
    | Wants is begun ↦ inr (inl is)
  ]

  pub honest_decided : (why : Reason) → IsJobWith hm hosts words m (Stops why)
      → (status ≡ status_of why) ⊎ (status ≡ 5) ⊎ ((file : Name) × FailsLast file call.events)
  honest_decided why refused = elim came [
    | Done run finished ↦ absurd (done_apart hm hosts words m old new status why finished refused)
    | Refuses first is said job same ↦ inl (decided hm hosts words m status why (By_refusal first job is) refused)
    | Fails file is said last same ↦ inr (inr (file, last))
    | Breaks is said begun ↦ absurd (begun_apart hm hosts words m old new why begun refused)
    | Wants is begun ↦ inr (inl is)
  ]

  pub honest_replayed : IsRunStatus status → Tells new.files.told (λ left. RunsAgain hm words m left old new status)
  honest_replayed run = λ left told. done_again hm hosts words m left old new status call.told told (honest_finished run)

  pub honest_kept : IsKept words old new
  honest_kept = elim came [
    | Done run finished ↦ finished_kept hm hosts words m old new status finished
    | Refuses why is said job same ↦ inl same.files.told
    | Fails file is said last same ↦ inl same.files.told
    | Breaks is said begun ↦ part_of_it_kept hm hosts words m old new begun
    | Wants is (inl same) ↦ inl same.files.told
    | Wants is (inr begun) ↦ part_of_it_kept hm hosts words m old new begun
  ]
