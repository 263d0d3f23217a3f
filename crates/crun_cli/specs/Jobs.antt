-- What a command line asks for, over what the files hold and the hosts that were handed in: a run, a unit to write, or the first
-- refusal. The order is: the words, the units' files in their order, the calls file, the journal that is replayed, the texts of
-- the units, the linker, and the lines of the calls file.
use Rattle.std.specs.Prelude.{◌≡◌, ◌⊎◌, ℕ, List, MatchOption}
use Rattle.w2c_base.specs.Run.{Host}
use Rattle.w2c_io.specs.Contents.{Name, Contents}
pub use Rattle.c_meaning.specs.Linking.{symbols_of}
use Rattle.host_replay.specs.Reading.{IsJournal, IsRefusedAt}
use Rattle.host_replay.specs.Texts.{Recorded}
use Rattle.crun_words.specs.CommandLine.{RunLine, Line, line_of, runs, merges, trims}
use Rattle.crun_words.specs.Inputs.{
  IsJournalReading,
  IsReading,
  JournalReading,
  Reading,
  AllRead,
  NotThere,
  LongUnit,
  LongCalls,
  Held,
  NoJournal,
  LongJournal,
}
use Rattle.crun_job.specs.declared.stop.Cause.TheVariants.{TooLong}
use Rattle.crun_job.specs.Job.{IsTextsJob, Job, Stops}
use Rattle.crun_job.specs.Lines.{JournalLine, JournalTooLong, CallsTooLong, Refused, Unread, Usage}
use Rattle.crun_units.specs.Jobs.{IsMergeJob, IsTrimJob}

-- ---- the run form

-- a journal's file is read, and its text is this journal
abbrev pub IsJournalBy : (JournalReading → Type 0) → Recorded → Type 0
IsJournalBy Reads j = (text : List ℕ) × Reads (Held text) × IsJournal text j

-- over what the files hold
abbrev pub HoldsJournal : Contents → Name → Recorded → Type 0
HoldsJournal contents name j = IsJournalBy (IsJournalReading contents name) j

-- what the texts of the units and of the calls file come to behind the journal's file: the units are linked with its modules
abbrev pub IsReplayJob : RunLine → Name → List (List ℕ) → List ℕ → JournalReading → Job → Type 0
IsReplayJob line name texts text (Held journal) job =
    ((j : Recorded) × IsJournal journal j × IsTextsJob line (symbols_of j.hosts) texts text job)
    ⊎ ((number : ℕ) × IsRefusedAt journal number × (job ≡ Stops (JournalLine number)))
IsReplayJob line name texts text NoJournal job = job ≡ Stops (Unread name)
IsReplayJob line name texts text LongJournal job = job ≡ Stops JournalTooLong

-- what they come to: with the hosts that were handed in, or with the modules of the journal that is replayed, by what reading its
-- file comes to
abbrev pub IsTextsJobBy : RunLine → List Host → (Name → JournalReading → Type 0) → List (List ℕ) → List ℕ → Job → Type 0
IsTextsJobBy line handed Reads texts text job =
    MatchOption line.replayed (IsTextsJob line (symbols_of handed) texts text job)
    (λ name. (reading : JournalReading) × Reads name reading × IsReplayJob line name texts text reading job)

-- by what reading the units and the calls file comes to
abbrev pub IsJobBy : RunLine → List Host → (Name → JournalReading → Type 0) → Reading → Job → Type 0
IsJobBy line handed Reads (AllRead texts text) job = IsTextsJobBy line handed Reads texts text job
IsJobBy line handed Reads (NotThere file) job = job ≡ Stops (Unread file)
IsJobBy line handed Reads (LongUnit file) job = job ≡ Stops (Refused file TooLong)
IsJobBy line handed Reads LongCalls job = job ≡ Stops CallsTooLong

-- over what the files hold
abbrev pub IsJobOfTexts : RunLine → List Host → Contents → List (List ℕ) → List ℕ → Job → Type 0
IsJobOfTexts line handed contents texts text job = IsTextsJobBy line handed (IsJournalReading contents) texts text job

abbrev pub IsJobBehind : RunLine → List Host → Contents → Reading → Job → Type 0
IsJobBehind line handed contents reading job = IsJobBy line handed (IsJournalReading contents) reading job

abbrev pub IsRunJob : RunLine → List Host → Contents → Job → Type 0
IsRunJob line handed contents job =
    (reading : Reading) × IsReading contents line.units line.calls reading × IsJobBehind line handed contents reading job

-- ---- what words ask for

abbrev pub IsLineJob : List Host → Contents → Line → Job → Type 0
IsLineJob handed contents (runs line) job = IsRunJob line handed contents job
IsLineJob handed contents (merges line) job = IsMergeJob line (symbols_of handed) contents job
IsLineJob handed contents (trims line) job = IsTrimJob line contents job

-- a bad command line where the words have no reading, else what their line asks for
abbrev pub IsJob : List Name → List Host → Contents → Job → Type 0
IsJob words handed contents job = MatchOption (line_of words) (job ≡ Stops Usage) (λ line. IsLineJob handed contents line job)
