-- Why the work stops: before anything is written, or in the middle of it.
use Rattle.std.specs.Prelude.{◌≡◌, ◌⊎◌, ℕ, List, Some}
use Rattle.w2c_io.specs.Contents.{Name, Contents}
use Rattle.w2c_io.specs.Causes.{Faulted, Rose}
use Rattle.w2c_io.specs.Telling.{Tells}
use Rattle.c_tree.specs.Tree as tree
use Rattle.c_meaning.specs.Linking.{SymbolCall}
use Rattle.c_hosts.specs.declared.host.HostModule.{Ghosts as HostModule}
use Rattle.c_hosts.specs.Asking.{hosts_of}
use Rattle.host_replay.specs.Reading.{IsRefusedAt}
use Rattle.crun_words.specs.CommandLine.{RunLine}
use Rattle.crun_words.specs.Inputs.{IsJournalReading, Held, LongJournal, NoJournal}
use Rattle.crun_job.specs.Job.{IsTextsJob, Run}
use Rattle.crun_job.specs.Lines.{Reason, CallsLine, JournalTooLong, JournalLine, Refused, Unread, Unwritten, WantOfMemory}
use Rattle.crun_job.specs.Stopping.{StopsTexts}
use Rattle.crun_units.specs.Files.{FilesSeen}
use Rattle.crun_cli.specs.Ends.{Begun, BegunIfAny, HasPlayedPart, IsUnread, IsUnwritten, Refuses}
use Rattle.crun_cli.specs.Files.{HasReading}
use Rattle.crun_cli.specs.Jobs.{symbols_of}
use Rattle.crun_cli.specs.Outside.{IsUntouched, Outside}

-- ---- a run, over the texts of its units and of the calls file, with these hosts

-- the texts come to a run, and this holds of its units and calls
abbrev pub IsTextsRun : {H : Type 0} → HostModule H → List H → RunLine → List (List ℕ) → List ℕ
    → (List (List tree.Item) → List SymbolCall → Type 0) → Type 0
IsTextsRun m hosts line texts text P = (units : List (List tree.Item)) × (calls : List SymbolCall)
    × IsTextsJob line (symbols_of (hosts_of m hosts)) texts text (Run units calls line.steps line.shows_state) × P units calls

-- a part of it is done
abbrev pub IsTextsPart : {H : Type 0} → HostModule H → List H → RunLine → List (List ℕ) → List ℕ → Outside → Outside → Type 0
IsTextsPart m hosts line texts text old new =
    IsTextsRun m hosts line texts text (λ units calls. HasPlayedPart m hosts line units calls old new)

-- a line, or the journal's file, is not written
abbrev pub IsRunUnwritten : RunLine → Outside → Outside → Type 0
IsRunUnwritten line old new = Rose old.out.faults new.out.faults
    ⊎ ((file : Name) × (line.journal ≡ Some file) × Faulted file old.files.write_faults new.files.write_faults new.files.fault_name)

abbrev pub StopsRun : {H : Type 0} → HostModule H → List H → RunLine → List (List ℕ) → List ℕ → Outside → Outside → Reason → Type 0
StopsRun m hosts line texts text old new (Refused file why) =
    StopsTexts line (symbols_of (hosts_of m hosts)) texts text (Refused file why) × IsUntouched old new
StopsRun m hosts line texts text old new (CallsLine number) =
    StopsTexts line (symbols_of (hosts_of m hosts)) texts text (CallsLine number) × IsUntouched old new
StopsRun m hosts line texts text old new Unwritten = IsRunUnwritten line old new × IsTextsPart m hosts line texts text old new
StopsRun m hosts line texts text old new WantOfMemory = IsUntouched old new ⊎ IsTextsPart m hosts line texts text old new
StopsRun m hosts line texts text old new _ = ⊥

-- ---- the journal that is replayed, by its file's name

abbrev pub StopsReplay : Name → FilesSeen → FilesSeen → Reason → Type 0
StopsReplay name old new (Unread file) = (file ≡ name) × (Faulted file old.read_faults new.read_faults new.fault_name
    ⊎ ((contents : Contents) × (old.told ≡ Some contents) × IsJournalReading contents name NoJournal))
StopsReplay name old new JournalTooLong = Tells old.told (λ contents. IsJournalReading contents name LongJournal)
StopsReplay name old new (JournalLine number) =
    Tells old.told (λ contents. (text : List ℕ) × IsJournalReading contents name (Held text) × IsRefusedAt text number)
StopsReplay name old new WantOfMemory = Unit {0}
StopsReplay name old new _ = ⊥

-- ---- what words ask for

abbrev pub StopsWork : {H : Type 0} → HostModule H → List H → List Name → Outside → Outside → Reason → Type 0
StopsWork m hosts words old new Unwritten = IsUnwritten words old new × HasReading words
    × Tells old.files.told (λ contents. Begun m hosts words contents old new)
StopsWork m hosts words old new WantOfMemory = Tells old.files.told (λ contents. BegunIfAny m hosts words contents old new)
StopsWork m hosts words old new (Unread file) = IsUnread m hosts words old new file × IsUntouched old new
StopsWork m hosts words old new why = Refuses m hosts words old.files.told why × IsUntouched old new
