-- The journal file that is handed to a run, what it says behind the run, and how it is written.
use Rattle.std.specs.Prelude.{◌≡◌, ⊤, ℕ, Bool, true, List, [], ◌++◌, Option, Some, None}
use Rattle.std.specs.List.{list_all}
use Rattle.w2c_io.specs.Contents.{Name, Told, holding}
use Rattle.w2c_files.specs.Standing.{IsBegun}
use Rattle.c_tree.specs.Tree as tree
use Rattle.c_meaning.specs.Linking.{SymbolCall}
use Rattle.c_hosts.specs.declared.host.HostModule.{Ghosts as HostModule}
use Rattle.c_hosts.specs.declared.journal.Asked.{Asked}
use Rattle.host_replay.specs.declared.file.JournalFile.{JournalFile}
use Rattle.host_replay.specs.Fitting.{fits}
use Rattle.host_replay.specs.Reading.{IsJournal}
use Rattle.host_replay.specs.Recording.{recorded}
use Rattle.host_replay.specs.Texts.{journal_text, Recorded}
use Rattle.host_replay.specs.Writable.{AreDistinct}
use Rattle.crun_cli.specs.Ends.{journal_of}
use Rattle.crun_cli.specs.Runs.{HasPart, HasRun}

-- ---- a file for the journal of a run

-- where a file is handed in, it has the modules of these hosts and no calls
abbrev pub IsBlank : {H : Type 0} → HostModule H → List H → Option JournalFile → Type 0
IsBlank m hosts None = ⊤
IsBlank m hosts (Some file) = recorded file ≡ journal_of m hosts []

-- and it is handed in where a name stands for it
abbrev pub IsBlankFor : {H : Type 0} → HostModule H → List H → Option Name → Option JournalFile → Type 0
IsBlankFor m hosts None file = file ≡ None
IsBlankFor m hosts (Some name) None = ⊥
IsBlankFor m hosts (Some name) (Some file) = recorded file ≡ journal_of m hosts []

-- behind a run in which this was asked, the file is the run's journal; there is none where none was handed in
abbrev pub IsFilled : {H : Type 0} → HostModule H → List H → List Asked → Option JournalFile → Option JournalFile → Type 0
IsFilled m hosts asks None filled = filled ≡ None
IsFilled m hosts asks (Some file) None = ⊥
IsFilled m hosts asks (Some file) (Some filled) = recorded filled ≡ journal_of m hosts asks

-- calls that a file can take, if there is one: they fit its modules
abbrev pub AreToFill : Option JournalFile → List Asked → Type 0
AreToFill None asks = ⊤
AreToFill (Some file) asks = list_all (fits (recorded file).hosts) asks ≡ true

-- the file, if there is one, with these calls at its end
abbrev pub HasTaken : Option JournalFile → List Asked → Option JournalFile → Type 0
HasTaken None asks filled = filled ≡ None
HasTaken (Some file) asks None = ⊥
HasTaken (Some file) asks (Some filled) =
    recorded filled ≡ record { hosts = (recorded file).hosts; entries = (recorded file).entries ++ asks }

-- ---- a run

-- a whole run, in which this was asked, and behind which the hosts are these
pub record HasAsked {H : Type 0} (m : HostModule H) (hosts : List H) (units : List (List tree.Item)) (calls : List SymbolCall) (steps : ℕ)
    (shown : Bool) (old new : Option (List ℕ)) (status : ℕ) (asks : List Asked) (left : List H) : Type 0 where
  pub run : HasRun m hosts units calls steps shown old new status
  pub asks_are : run.asks ≡ asks
  pub hosts_are : run.after ≡ left

-- a whole run, and the file that was handed in for its journal
pub record HasRecorded {H : Type 0} (m : HostModule H) (hosts : List H) (units : List (List tree.Item)) (calls : List SymbolCall)
    (steps : ℕ) (shown : Bool) (old new : Option (List ℕ)) (status : ℕ) (file filled : Option JournalFile) : Type 0 where
  pub run : HasRun m hosts units calls steps shown old new status
  pub filled_is : IsFilled m hosts run.asks file filled

-- the same, and behind the run the hosts are these
pub record HasRecordedLeaving {H : Type 0} (m : HostModule H) (hosts : List H) (units : List (List tree.Item)) (calls : List SymbolCall)
    (steps : ℕ) (shown : Bool) (old new : Option (List ℕ)) (status : ℕ) (file filled : Option JournalFile) (left : List H)
    : Type 0 where
  pub recorded : HasRecorded m hosts units calls steps shown old new status file filled
  pub hosts_are : recorded.run.after ≡ left

-- a part of a run, behind which the hosts are these
pub record HasPartLeaving {H : Type 0} (m : HostModule H) (hosts : List H) (units : List (List tree.Item)) (calls : List SymbolCall)
    (steps : ℕ) (shown : Bool) (old new : Option (List ℕ)) (left : List H) : Type 0 where
  pub part : HasPart m hosts units calls steps shown old new
  pub hosts_are : part.after ≡ left

-- ---- the file is written

-- a file is there where a name stands for it
abbrev pub IsNamed : Option Name → Option JournalFile → Type 0
IsNamed None file = ⊤
IsNamed (Some name) None = ⊥
IsNamed (Some name) (Some file) = ⊤

-- the text is that of this journal alone, where no two functions have one symbol
abbrev pub IsText : Recorded → Type 0
IsText j = AreDistinct j.hosts → IsJournal (journal_text j) j

-- the file of the name, if there is one, holds the journal's text; no other file changed
abbrev pub IsWritten : Option Name → Option JournalFile → Told → Told → Type 0
IsWritten None file old new = new ≡ old
IsWritten (Some name) None old new = ⊥
IsWritten (Some name) (Some file) old new = (new ≡ holding old name (journal_text (recorded file))) × IsText (recorded file)

-- it is untouched, or holds a part of it
abbrev pub IsWrittenPart : Option Name → Option JournalFile → Told → Told → Type 0
IsWrittenPart None file old new = ⊥
IsWrittenPart (Some name) None old new = ⊥
IsWrittenPart (Some name) (Some file) old new = IsBegun old new name (journal_text (recorded file))
