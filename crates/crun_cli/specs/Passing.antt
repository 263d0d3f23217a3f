-- What passes through the files in a call: the files that the words name are read first, each once and in order, and then the file
-- that they name for writing is written, if they name one. What is written, and how the call ends, follows from the bytes that the
-- reads gave.
use Rattle.std.specs.Prelude.{◌≡◌, ◌⊎◌, ℕ, Bool, List, [], ◌∷◌, ◌++◌, MatchOption, Option, Some, None}
use Rattle.w2c_base.specs.Run.{Host}
use Rattle.w2c_io.specs.Contents.{Name}
use Rattle.w2c_io.specs.Events.{Event}
use Rattle.w2c_io.specs.Passed.{WritesFile, BreaksOff}
use Rattle.w2c_io.specs.declared.answers.WriteAnswer.{WriteAnswer}
use Rattle.w2c_io.specs.declared.answers.WriteAnswer.TheVariants as answer
use Rattle.w2c_files.specs.Passing.{limited}
use Rattle.c_tree.specs.Tree as tree
use Rattle.c_meaning.specs.Linking.{SymbolCall}
use Rattle.c_hosts.specs.declared.host.HostModule.{Ghosts as HostModule}
use Rattle.c_hosts.specs.Asking.{hosts_of}
use Rattle.host_replay.specs.Reading.{IsJournal}
use Rattle.host_replay.specs.Texts.{journal_text, Recorded}
use Rattle.crun_words.specs.CommandLine.{RunLine, Line, line_of, runs, merges, trims}
use Rattle.crun_words.specs.Inputs.{
  AllRead,
  JournalReading,
  LongCalls,
  LongUnit,
  most_calls_bytes,
  most_journal_bytes,
  most_unit_bytes,
  NotThere,
  Reading,
}
use Rattle.crun_words.specs.Passing.{GivesInputs, GivesJournal}
use Rattle.crun_job.specs.Job.{Job, Run, Stops, Write}
use Rattle.crun_job.specs.Lines.{error_line, status_of, Reason, Unwritten, Usage, WantOfMemory}
use Rattle.crun_units.specs.Jobs.{IsMerged, IsTrimmedText}
use Rattle.crun_units.specs.Passing.{PassesBy, PassesUnits, reason_for}
use Rattle.crun_cli.specs.Ends.{journal_of, WithHostsBy}
use Rattle.crun_cli.specs.Jobs.{symbols_of, IsJobBy}
use Rattle.crun_cli.specs.Runs.{HasPart, HasRun}

-- ---- which files are read

abbrev pub journal_to_read : Option Name → List (Name × ℕ)
journal_to_read None = []
journal_to_read (Some name) = (name, most_journal_bytes) ∷ []

-- the files of a run, in order, each with the most bytes that it may have: the units, the calls file, the journal that is replayed
abbrev pub run_reads : RunLine → List (Name × ℕ)
run_reads line = limited most_unit_bytes line.units ++ (line.calls, most_calls_bytes) ∷ journal_to_read line.replayed

-- ---- what is asked for, over what the reads gave

-- a journal is read behind other files that all gave bytes, where one is named, and else no more is read
abbrev pub ReadsMore : Option Name → Reading → List Event → Type 0
ReadsMore (Some name) (AllRead texts text) last = Unit {0}
ReadsMore (Some name) (NotThere file) last = last ≡ []
ReadsMore (Some name) (LongUnit file) last = last ≡ []
ReadsMore (Some name) LongCalls last = last ≡ []
ReadsMore None reading last = last ≡ []

abbrev pub IsRunJobOver : RunLine → List Host → List Event → Job → Type 0
IsRunJobOver line handed given job =
    (reading : Reading) × (first : List Event) × (last : List Event) × (given ≡ first ++ last)
    × GivesInputs line.units line.calls reading first × ReadsMore line.replayed reading last
    × IsJobBy line handed (λ name r. GivesJournal name r last) reading job

-- ---- what is written

-- Below, `Ends status` says that the call ends with a status of a run, and `Stopped why` that it stops for a reason. The stream
-- was told `old`, and behind the call it was told `new`.

-- it stops, and the stream has gained nothing
abbrev pub StopsQuietly : Option (List ℕ) → Option (List ℕ) → (Reason → Type 0) → Reason → Type 0
StopsQuietly old new Stopped why = (new ≡ old) × Stopped why

-- the file that is named for a journal, if one is, gets its text, which is that of this journal alone
abbrev pub WritesJournal : Option Name → Recorded → List Event → Type 0
WritesJournal None j written = written ≡ []
WritesJournal (Some name) j written = WritesFile name (journal_text j) written × IsJournal (journal_text j) j

-- it breaks off, or memory is wanting before its file is begun
abbrev pub BreaksJournal : Option Name → Recorded → WriteAnswer → List Event → Type 0
BreaksJournal None j why written = ⊥
BreaksJournal (Some name) j why written = ((written ≡ []) × (why ≡ answer.Memory)) ⊎ BreaksOff name (journal_text j) why written

-- the run is over, and then its journal is written whole, or breaks off
pub record WritesBehind {H : Type 0} (m : HostModule H) (hosts : List H) (journal : Option Name) (units : List (List tree.Item))
    (calls : List SymbolCall) (steps : ℕ) (shown : Bool) (old new : Option (List ℕ)) (Ends : ℕ → Type 0) (Stopped : Reason → Type 0)
    (written : List Event) : Type 0 where
  pub status : ℕ
  pub run : HasRun m hosts units calls steps shown old new status
  pub ends : (WritesJournal journal (journal_of m hosts run.asks) written × Ends status)
      ⊎ ((why : WriteAnswer) × BreaksJournal journal (journal_of m hosts run.asks) why written × Stopped (reason_for why))

-- or a part of its lines is written, and then no file is begun: the next line is not written, or memory is wanting
abbrev pub WritesRun : {H : Type 0} → HostModule H → List H → Option Name → List (List tree.Item) → List SymbolCall → ℕ → Bool
    → Option (List ℕ) → Option (List ℕ) → (ℕ → Type 0) → (Reason → Type 0) → List Event → Type 0
WritesRun m hosts journal units calls steps shown old new Ends Stopped written =
    WritesBehind m hosts journal units calls steps shown old new Ends Stopped written
    ⊎ (HasPart m hosts units calls steps shown old new × (written ≡ []) × (Stopped Unwritten ⊎ Stopped WantOfMemory))

-- the journal that is replayed was read last
abbrev pub IsReadLast : List Event → Name → JournalReading → Type 0
IsReadLast given name reading = (first : List Event) × (last : List Event) × (given ≡ first ++ last) × GivesJournal name reading last

-- nothing is written where the job is refused; a run is with the hosts that were handed in, or with those of the journal
abbrev pub WritesOfRun : {H : Type 0} → HostModule H → List H → RunLine → Option (List ℕ) → Option (List ℕ) → (ℕ → Type 0)
    → (Reason → Type 0) → List Event → Job → List Event → Type 0
WritesOfRun m hosts line old new Ends Stopped given (Stops why) written = (written ≡ []) × StopsQuietly old new Stopped why
WritesOfRun m hosts line old new Ends Stopped given (Run units calls steps shown) written =
    WithHostsBy m hosts line.replayed (IsReadLast given)
    (λ G n gs. WritesRun n gs line.journal units calls steps shown old new Ends Stopped written)
WritesOfRun m hosts line old new Ends Stopped given (Write output unit) written = ⊥

-- ---- what words ask for

abbrev pub PassesRun : {H : Type 0} → HostModule H → List H → RunLine → Option (List ℕ) → Option (List ℕ) → (ℕ → Type 0)
    → (Reason → Type 0) → List Event → Type 0
PassesRun m hosts line old new Ends Stopped events = PassesBy (run_reads line) (IsRunJobOver line (hosts_of m hosts))
    (WritesOfRun m hosts line old new Ends Stopped) (StopsQuietly old new Stopped) events

-- the stream gains nothing where a unit is asked for
abbrev pub PassesLine : {H : Type 0} → HostModule H → List H → Line → Option (List ℕ) → Option (List ℕ) → (ℕ → Type 0)
    → (Reason → Type 0) → List Event → Type 0
PassesLine m hosts (runs line) old new Ends Stopped events = PassesRun m hosts line old new Ends Stopped events
PassesLine m hosts (merges line) old new Ends Stopped events =
    (new ≡ old) × PassesUnits line.units (IsMerged line (symbols_of (hosts_of m hosts))) Ends Stopped events
PassesLine m hosts (trims line) old new Ends Stopped events =
    (new ≡ old) × PassesUnits (line.unit ∷ []) (IsTrimmedText line) Ends Stopped events

-- words without a reading: no file is read, and none is begun
abbrev pub PassesWords : {H : Type 0} → HostModule H → List H → List Name → Option (List ℕ) → Option (List ℕ) → (ℕ → Type 0)
    → (Reason → Type 0) → List Event → Type 0
PassesWords m hosts words old new Ends Stopped events =
    MatchOption (line_of words) ((events ≡ []) × (new ≡ old) × (Stopped Usage ⊎ Stopped WantOfMemory))
    (λ line. PassesLine m hosts line old new Ends Stopped events)

-- the status is that of this reason, and its line was said; or memory was wanting for that
abbrev pub StopsFor : ℕ → (List ℕ → Type 0) → Reason → Type 0
StopsFor status Said why = ((status ≡ status_of why) × Said (error_line why)) ⊎ (status ≡ 5)

-- what passes in a call that comes to this status, where `Said line` says that the error stream gained a line
abbrev pub PassesFor : {H : Type 0} → HostModule H → List H → List Name → Option (List ℕ) → Option (List ℕ) → ℕ → (List ℕ → Type 0)
    → List Event → Type 0
PassesFor m hosts words old new status Said events =
    PassesWords m hosts words old new (λ s. status ≡ s) (StopsFor status Said) events
