-- What a call comes to over the job that the words ask for, and what it leaves: the lines on the stream, the journal of a run, and
-- the file of a unit.
use Rattle.std.specs.Prelude.{◌≡◌, ◌⊎◌, ℕ, true, List, Option, Some, None}
use Rattle.w2c_io.specs.Contents.{Name, Contents, Told, holding}
use Rattle.w2c_io.specs.Causes.{Faulted, Rose}
use Rattle.w2c_io.specs.Telling.{Tells}
use Rattle.w2c_files.specs.Standing.{IsBegun}
use Rattle.c_tree.specs.Rules.{are_distinct}
use Rattle.c_tree.specs.Spelled.{CSpells}
use Rattle.c_tree.specs.Tree as tree
use Rattle.c_meaning.specs.Linking.{SymbolCall}
use Rattle.c_link.specs.Resolved.{symbol_names}
use Rattle.c_print.specs.Print.{print_of}
use Rattle.crun.specs.HostSymbols.{symbols_of_hosts}
use Rattle.c_hosts.specs.declared.host.HostModule.{Ghosts as HostModule}
use Rattle.c_hosts.specs.declared.journal.Asked.{Asked}
use Rattle.c_hosts.specs.Asking.{hosts_of, Answered}
use Rattle.host_replay.specs.declared.replay.ReplayHost.{ReplayHost}
use Rattle.host_replay.specs.Replayed.{AreReplays, replaying}
use Rattle.c_hosts.specs.Journals.{events_in}
use Rattle.host_replay.specs.Runs.{asked_events, run_with}
use Rattle.host_replay.specs.Reading.{IsJournal}
use Rattle.host_replay.specs.Texts.{journal_text, Recorded}
use Rattle.crun_words.specs.CommandLine.{RunLine, line_of, runs}
use Rattle.crun_words.specs.Inputs.{IsJournalReading, JournalReading}
use Rattle.crun_job.specs.Job.{Job, Run, Stops, Write}
use Rattle.crun_job.specs.Lines.{Reason, Usage, Refused, Unread, Unwritten, WantOfMemory, status_of}
use Rattle.crun_cli.specs.Files.{HasReading, IsToRead, IsToWrite, IsUnitFile}
use Rattle.crun_cli.specs.Jobs.{IsJob, IsJournalBy}
use Rattle.crun_cli.specs.Outside.{IsUntouched, Outside}
use Rattle.crun_cli.specs.Runs.{HasPart, HasRun, HasStatus}

-- no two functions of the hosts have one symbol
abbrev pub AreOffered : {H : Type 0} → HostModule H → List H → Type 0
AreOffered m hosts = are_distinct (symbol_names (symbols_of_hosts (hosts_of m hosts))) ≡ true

-- the words ask for this over what the files hold, with these hosts
abbrev pub IsJobWith : {H : Type 0} → HostModule H → List H → List Name → Contents → Job → Type 0
IsJobWith m hosts words contents job = IsJob words (hosts_of m hosts) contents job

-- this holds of the hosts that a run is with: those that were handed in, or hosts that reply again what a journal says, by what
-- reading its file comes to
abbrev pub WithHostsBy : {H : Type 0} → HostModule H → List H → Option Name → (Name → JournalReading → Type 0)
    → ((G : Type 0) → HostModule G → List G → Type 0) → Type 0
WithHostsBy {H} m hosts None Reads P = P H m hosts
WithHostsBy m hosts (Some name) Reads P =
    (j : Recorded) × (replays : List ReplayHost) × IsJournalBy (Reads name) j × AreReplays j replays × P ReplayHost replaying replays

-- over what the files hold
abbrev pub WithHosts : {H : Type 0} → HostModule H → List H → Option Name → Contents → ((G : Type 0) → HostModule G → List G → Type 0)
    → Type 0
WithHosts m hosts replayed contents P = WithHostsBy m hosts replayed (IsJournalReading contents) P

-- the statuses of runs, that of a unit which was written among them
abbrev pub IsRunStatus : ℕ → Type 0
IsRunStatus status = (status ≡ 0) ⊎ (status ≡ 1) ⊎ (status ≡ 7) ⊎ (status ≡ 8)

-- ---- a run

-- the journal of a run: its hosts, and what they were asked and replied
abbrev pub journal_of : {H : Type 0} → HostModule H → List H → List Asked → Recorded
journal_of m hosts asks = record { hosts = hosts_of m hosts; entries = asks }

-- The file that is named for the journal, if one is, holds its text, which is that of this journal alone; no other file changed.
abbrev pub IsJournaled : Option Name → Recorded → Told → Told → Type 0
IsJournaled None j old new = new ≡ old
IsJournaled (Some name) j old new = (new ≡ holding old name (journal_text j)) × IsJournal (journal_text j) j

-- the stream has gained the lines of a whole run, and then its journal was written
pub record HasPlayed {H : Type 0} (m : HostModule H) (hosts : List H) (line : RunLine) (units : List (List tree.Item))
    (calls : List SymbolCall) (old new : Outside) (status : ℕ) : Type 0 where
  pub run : HasRun m hosts units calls line.steps line.shows_state old.out.told new.out.told status
  pub written : IsJournaled line.journal (journal_of m hosts run.asks) old.files.told new.files.told

-- the lines are written, and a part of the journal, or nothing of it
pub record HasJournalPart {H : Type 0} (m : HostModule H) (hosts : List H) (line : RunLine) (units : List (List tree.Item))
    (calls : List SymbolCall) (old new : Outside) : Type 0 where
  pub status : ℕ
  pub run : HasRun m hosts units calls line.steps line.shows_state old.out.told new.out.told status
  pub name : Name
  pub named : line.journal ≡ Some name
  pub begun : IsBegun old.files.told new.files.told name (journal_text (journal_of m hosts run.asks))

-- a part of the lines is written and no file, or all lines and a part of the journal
abbrev pub HasPlayedPart : {H : Type 0} → HostModule H → List H → RunLine → List (List tree.Item) → List SymbolCall → Outside → Outside
    → Type 0
HasPlayedPart m hosts line units calls old new =
    (HasPart m hosts units calls line.steps line.shows_state old.out.told new.out.told × (new.files.told ≡ old.files.told))
    ⊎ HasJournalPart m hosts line units calls old new

-- the words ask for a run, and this holds of its line, its units, its calls, and the hosts that it is with
abbrev pub IsRun : {H : Type 0} → HostModule H → List H → List Name → Contents
    → ((G : Type 0) → HostModule G → List G → RunLine → List (List tree.Item) → List SymbolCall → Type 0) → Type 0
IsRun m hosts words contents P =
    (line : RunLine) × (units : List (List tree.Item)) × (calls : List SymbolCall) × (line_of words ≡ Some (runs line))
    × IsJobWith m hosts words contents (Run units calls line.steps line.shows_state)
    × WithHosts m hosts line.replayed contents (λ G n gs. P G n gs line units calls)

-- it has run, with this status, and this is what it leaves
abbrev pub Ran : {H : Type 0} → HostModule H → List H → List Name → Contents → Outside → Outside → ℕ → Type 0
Ran m hosts words contents old new status =
    IsRun m hosts words contents (λ G n gs line units calls. HasPlayed n gs line units calls old new status)

abbrev pub RanPart : {H : Type 0} → HostModule H → List H → List Name → Contents → Outside → Outside → Type 0
RanPart m hosts words contents old new =
    IsRun m hosts words contents (λ G n gs line units calls. HasPlayedPart n gs line units calls old new)

-- ---- a unit

-- the words ask for a unit's text in a file: the text spells the unit, and nothing goes on the stream
pub record Wrote {H : Type 0} (m : HostModule H) (hosts : List H) (words : List Name) (contents : Contents)
    (old new : Outside) : Type 0 where
  pub output : Name
  pub unit : List tree.Item
  pub job : IsJobWith m hosts words contents (Write output unit)
  pub spells : CSpells unit (print_of unit)
  pub written : new.files.told ≡ holding old.files.told output (print_of unit)
  pub nothing : new.out.told ≡ old.out.told

-- the file is untouched, or holds a part of the text
pub record WrotePart {H : Type 0} (m : HostModule H) (hosts : List H) (words : List Name) (contents : Contents) (old new : Outside)
    : Type 0 where
  pub output : Name
  pub unit : List tree.Item
  pub job : IsJobWith m hosts words contents (Write output unit)
  pub begun : IsBegun old.files.told new.files.told output (print_of unit)
  pub nothing : new.out.told ≡ old.out.told

-- ---- either

-- with status 0, 1, 7 or 8: a run came to this, or with status 0 a unit was written
abbrev pub Finished : {H : Type 0} → HostModule H → List H → List Name → Contents → Outside → Outside → ℕ → Type 0
Finished m hosts words contents old new status =
    Ran m hosts words contents old new status ⊎ ((status ≡ 0) × Wrote m hosts words contents old new)

-- a part of it
abbrev pub Begun : {H : Type 0} → HostModule H → List H → List Name → Contents → Outside → Outside → Type 0
Begun m hosts words contents old new = RanPart m hosts words contents old new ⊎ WrotePart m hosts words contents old new

-- nothing, or a part of it
abbrev pub BegunIfAny : {H : Type 0} → HostModule H → List H → List Name → Contents → Outside → Outside → Type 0
BegunIfAny m hosts words contents old new = IsUntouched old new ⊎ Begun m hosts words contents old new

-- hosts have answered these asks in turn, which are those that the run tells, with these replies, and it has this status
abbrev pub HasAnswer : (G : Type 0) → HostModule G → List G → RunLine → List (List tree.Item) → List SymbolCall → ℕ → Type 0
HasAnswer G n gs line units calls status = (asks : List Asked) × (after : List G) × Answered n gs asks after
    × (asked_events (run_with n gs units calls line.steps asks).events ≡ events_in asks)
    × HasStatus (run_with n gs units calls line.steps asks).outcome status

-- the status that answers what the words ask for: that of the refusal, 0 for a unit that is written, or that of the run
pub data IsAnswered {H : Type 0} (m : HostModule H) (hosts : List H) (words : List Name) (contents : Contents) (status : ℕ) : Type 0 where
  By_refusal : (why : Reason) → IsJobWith m hosts words contents (Stops why) → status ≡ status_of why
      → IsAnswered m hosts words contents status
  By_unit : (output : Name) → (unit : List tree.Item) → IsJobWith m hosts words contents (Write output unit) → status ≡ 0
      → IsAnswered m hosts words contents status
  By_run : IsRun m hosts words contents (λ G n gs line units calls. HasAnswer G n gs line units calls status)
      → IsAnswered m hosts words contents status

-- the first refusal, over what the files tell
abbrev pub IsFirst : {H : Type 0} → HostModule H → List H → List Name → Told → Reason → Type 0
IsFirst m hosts words told why = Tells told (λ contents. IsJobWith m hosts words contents (Stops why))

-- why the words or a unit are refused, or else the calls file, the journal, or a line of either
abbrev pub Refuses : {H : Type 0} → HostModule H → List H → List Name → Told → Reason → Type 0
Refuses m hosts words told Usage = line_of words ≡ None
Refuses m hosts words told (Refused file why) = IsUnitFile file (line_of words) × IsFirst m hosts words told (Refused file why)
Refuses m hosts words told (Unread file) = ⊥
Refuses m hosts words told Unwritten = ⊥
Refuses m hosts words told WantOfMemory = ⊥
Refuses m hosts words told why = HasReading words × IsFirst m hosts words told why

-- a file is not read: one that the words say is to be read
pub record IsUnread {H : Type 0} (m : HostModule H) (hosts : List H) (words : List Name) (old new : Outside) (file : Name) : Type 0 where
  pub to_read : IsToRead file (line_of words)
  pub cause : Faulted file old.files.read_faults new.files.read_faults new.files.fault_name
      ⊎ ((contents : Contents) × (old.files.told ≡ Some contents) × IsJobWith m hosts words contents (Stops (Unread file)))

-- what is not written: a line, or the file that the words name for writing
abbrev pub IsUnwritten : List Name → Outside → Outside → Type 0
IsUnwritten words old new = Rose old.out.faults new.out.faults
    ⊎ ((file : Name) × IsToWrite file (line_of words) × Faulted file old.files.write_faults new.files.write_faults new.files.fault_name)

-- no file changes but the one that the words name for writing
abbrev pub IsKept : List Name → Outside → Outside → Type 0
IsKept words old new = (new.files.told ≡ old.files.told)
    ⊎ ((file : Name) × (text : List ℕ) × IsToWrite file (line_of words) × (new.files.told ≡ holding old.files.told file text))
