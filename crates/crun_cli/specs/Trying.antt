-- How a call of the code ends, and what passes through the files in each step.
use Rattle.std.specs.Prelude.{◌≡◌, ◌⊎◌, ℕ, List, [], Option, Some, None, Result, Ok, Err}
use Rattle.w2c_io.specs.Contents.{Name}
use Rattle.w2c_io.specs.Events.{Event}
use Rattle.w2c_io.specs.Passed.{WritesFile, BreaksOff}
use Rattle.w2c_io.specs.declared.answers.WriteAnswer.{WriteAnswer}
use Rattle.w2c_io.specs.declared.answers.WriteAnswer.TheVariants as answer
use Rattle.c_hosts.specs.declared.host.HostModule.{Ghosts as HostModule}
use Rattle.c_hosts.specs.Asking.{hosts_of}
use Rattle.host_replay.specs.declared.file.JournalFile.{JournalFile}
use Rattle.host_replay.specs.declared.replay.ReplayHost.{ReplayHost}
use Rattle.host_replay.specs.Reading.{IsRefusedAt}
use Rattle.host_replay.specs.Recording.{recorded}
use Rattle.host_replay.specs.Replayed.{AreReplays}
use Rattle.host_replay.specs.Texts.{journal_text, Recorded}
use Rattle.crun_words.specs.CommandLine.{RunLine}
use Rattle.crun_words.specs.Inputs.{most_journal_bytes, Held, LongJournal, NoJournal}
use Rattle.crun_words.specs.Passing.{GivesJournal, ReadsFile}
use Rattle.crun_job.specs.declared.stop.Stop.{Stop}
use Rattle.crun_job.specs.Job.{IsTextsJob, Job, Run, Stops, Write}
use Rattle.crun_job.specs.Lines.{Reason, JournalTooLong, JournalLine, Unread, WantOfMemory}
use Rattle.crun_cli.specs.Jobs.{symbols_of, IsJournalBy}
use Rattle.crun_cli.specs.Passing.{StopsQuietly, WritesRun}

-- ---- how a call ends

abbrev pub ended_by : Result ℕ Stop → ℕ → Type 0
ended_by (Ok status) s = status ≡ s
ended_by (Err stop) s = ⊥

-- ---- the journal that is replayed

abbrev pub GivesReplays : Name → List ReplayHost → List Event → Type 0
GivesReplays name replays events =
    (j : Recorded) × IsJournalBy (λ reading. GivesJournal name reading events) j × AreReplays j replays

abbrev pub TriesReplay : Name → Reason → List Event → Type 0
TriesReplay name (Unread file) events = (file ≡ name) × GivesJournal name NoJournal events
TriesReplay name JournalTooLong events = GivesJournal name LongJournal events
TriesReplay name (JournalLine number) events = (text : List ℕ) × GivesJournal name (Held text) events × IsRefusedAt text number
TriesReplay name WantOfMemory events = ReadsFile most_journal_bytes name events
TriesReplay name _ events = ⊥

-- ---- the journal of a run

-- the file of the name, if there is one, was written with the journal's text
abbrev pub PutsJournal : Option Name → Option JournalFile → List Event → Type 0
PutsJournal None file events = events ≡ []
PutsJournal (Some name) None events = ⊥
PutsJournal (Some name) (Some file) events = WritesFile name (journal_text (recorded file)) events

-- it was broken off, or memory was wanting before
abbrev pub PutsJournalPart : Option Name → Option JournalFile → WriteAnswer → List Event → Type 0
PutsJournalPart None file why events = ⊥
PutsJournalPart (Some name) None why events = ⊥
PutsJournalPart (Some name) (Some file) why events =
    ((events ≡ []) × (why ≡ answer.Memory)) ⊎ BreaksOff name (journal_text (recorded file)) why events

-- ---- a run, over the texts of its units and of the calls file, with these hosts

abbrev pub WritesOfTextsJob : {H : Type 0} → HostModule H → List H → RunLine → Option (List ℕ) → Option (List ℕ) → (ℕ → Type 0)
    → (Reason → Type 0) → Job → List Event → Type 0
WritesOfTextsJob m hosts line old new Ends Stopped (Stops why) written = (written ≡ []) × StopsQuietly old new Stopped why
WritesOfTextsJob m hosts line old new Ends Stopped (Run units calls steps shown) written =
    WritesRun m hosts line.journal units calls steps shown old new Ends Stopped written
WritesOfTextsJob m hosts line old new Ends Stopped (Write output unit) written = ⊥

abbrev pub WritesOfTexts : {H : Type 0} → HostModule H → List H → RunLine → List (List ℕ) → List ℕ → Option (List ℕ) → Option (List ℕ)
    → (ℕ → Type 0) → (Reason → Type 0) → List Event → Type 0
WritesOfTexts m hosts line texts text old new Ends Stopped written = ((written ≡ []) × StopsQuietly old new Stopped WantOfMemory)
    ⊎ ((job : Job) × IsTextsJob line (symbols_of (hosts_of m hosts)) texts text job
    × WritesOfTextsJob m hosts line old new Ends Stopped job written)
