-- What passes through the files that crun reads: each read with its limit, in order, and what reading them comes to by what the
-- reads gave.
use Rattle.std.specs.Prelude.{◌≡◌, ◌⊎◌, ℕ, ◌-◌, ◌<◌, List, [], ◌∷◌, ◌++◌, length, Result, Ok, Err, string_bytes}
use Rattle.w2c_io.specs.Contents.{Name}
use Rattle.w2c_io.specs.Events.{Event, Read}
use Rattle.w2c_io.specs.declared.answers.ReadAnswer.{ReadAnswer}
use Rattle.w2c_io.specs.declared.answers.ReadAnswer.TheVariants as reading
use Rattle.w2c_files.specs.Passing.{limited, ReadsAll, ReadsInOrder}
use Rattle.w2c_files.specs.Reading.{total}
use Rattle.crun_words.specs.declared.inputs.FileStop.{FileStop}
use Rattle.crun_words.specs.declared.inputs.FileStop.TheVariants as file_stop
use Rattle.crun_words.specs.declared.inputs.InputStop.{InputStop}
use Rattle.crun_words.specs.declared.inputs.InputStop.TheVariants as stop
use Rattle.crun_words.specs.Inputs.{
  AllRead,
  Held,
  JournalReading,
  LongCalls,
  LongJournal,
  LongUnit,
  most_calls_bytes,
  most_journal_bytes,
  most_unit_bytes,
  most_units_bytes,
  NoJournal,
  NotThere,
  NoUnit,
  Reading,
  UnitsRead,
  UnitsReading,
  UnitTooLong,
}

-- ---- what reading comes to, by what the reads gave

-- a read found no such file, or failed
abbrev pub IsAway : Result (List ℕ) ReadAnswer → Type 0
IsAway (Err reading.Absent) = Unit {0}
IsAway (Err reading.Failed) = Unit {0}
IsAway _ = ⊥

-- a file has more bytes than it may have, or than are left for it
abbrev pub IsOver : ℕ → Result (List ℕ) ReadAnswer → Type 0
IsOver left (Err reading.TooLong) = Unit {0}
IsOver left (Ok bytes) = left < length bytes
IsOver left _ = ⊥

-- the units in front were read and gave these texts; this one was read last, and answered this
pub record ReadsUnto (units : List Name) (name : Name) (texts : List (List ℕ)) (answer : Result (List ℕ) ReadAnswer)
    (events : List Event) : Type 0 where
  pub front : List Name
  pub rest : List Name
  pub first : List Event
  pub split : units ≡ front ++ name ∷ rest
  pub gave : ReadsAll most_unit_bytes front texts first
  pub calls : events ≡ first ++ Read name most_unit_bytes answer ∷ []

-- all units gave their texts, or the last that was read is not there, or too long
abbrev pub GivesUnits : List Name → UnitsReading → List Event → Type 0
GivesUnits units (UnitsRead texts) events = ReadsAll most_unit_bytes units texts events
GivesUnits units (NoUnit name) events =
    (texts : List (List ℕ)) × (answer : Result (List ℕ) ReadAnswer) × IsAway answer × ReadsUnto units name texts answer events
GivesUnits units (UnitTooLong name) events =
    (texts : List (List ℕ)) × (answer : Result (List ℕ) ReadAnswer) × IsOver (most_units_bytes - total texts) answer
    × ReadsUnto units name texts answer events

-- all units gave these texts, and the calls file was read behind them and answered this
abbrev pub ReadsCalls : List Name → Name → List (List ℕ) → Result (List ℕ) ReadAnswer → List Event → Type 0
ReadsCalls units calls texts answer events = (first : List Event) × ReadsAll most_unit_bytes units texts first
    × (events ≡ first ++ Read calls most_calls_bytes answer ∷ [])

-- the units and the calls file gave their texts, or the last file that was read is not there, or too long
abbrev pub GivesInputs : List Name → Name → Reading → List Event → Type 0
GivesInputs units calls (AllRead texts text) events = ReadsCalls units calls texts (Ok text) events
GivesInputs units calls (NotThere name) events = GivesUnits units (NoUnit name) events
    ⊎ ((name ≡ calls) × (texts : List (List ℕ)) × (answer : Result (List ℕ) ReadAnswer) × IsAway answer
    × ReadsCalls units calls texts answer events)
GivesInputs units calls (LongUnit name) events = GivesUnits units (UnitTooLong name) events
GivesInputs units calls LongCalls events = (texts : List (List ℕ)) × ReadsCalls units calls texts (Err reading.TooLong) events

-- the journal was read and gave its text, or is not there, or too long
abbrev pub GivesJournal : Name → JournalReading → List Event → Type 0
GivesJournal name (Held text) events = events ≡ Read name most_journal_bytes (Ok text) ∷ []
GivesJournal name NoJournal events =
    (answer : Result (List ℕ) ReadAnswer) × IsAway answer × (events ≡ Read name most_journal_bytes answer ∷ [])
GivesJournal name LongJournal events = events ≡ Read name most_journal_bytes (Err reading.TooLong) ∷ []

-- ---- the same by why reading stopped

-- one file was read, whatever it answered
abbrev pub ReadsFile : ℕ → Name → List Event → Type 0
ReadsFile most file events = (answer : Result (List ℕ) ReadAnswer) × (events ≡ Read file most answer ∷ [])

-- the file of this name was read, and is not there
abbrev pub FindsNone : ℕ → Name → Name → List Event → Type 0
FindsNone most file name events = (name ≡ file)
    × (answer : Result (List ℕ) ReadAnswer) × IsAway answer × (events ≡ Read file most answer ∷ [])

abbrev pub TriesFile : ℕ → Name → FileStop → List Event → Type 0
TriesFile most file (file_stop.Unread name) events = FindsNone most file (string_bytes name) events
TriesFile most file file_stop.TooLong events = events ≡ Read file most (Err reading.TooLong) ∷ []
TriesFile most file file_stop.Memory events = ReadsFile most file events

abbrev pub TriesCalls : Name → InputStop → List Event → Type 0
TriesCalls calls (stop.Unread name) events = FindsNone most_calls_bytes calls (string_bytes name) events
TriesCalls calls stop.CallsTooLong events = events ≡ Read calls most_calls_bytes (Err reading.TooLong) ∷ []
TriesCalls calls stop.Memory events = ReadsFile most_calls_bytes calls events
TriesCalls calls _ events = ⊥

abbrev pub TriesJournal : Name → InputStop → List Event → Type 0
TriesJournal journal (stop.Unread name) events = FindsNone most_journal_bytes journal (string_bytes name) events
TriesJournal journal stop.JournalTooLong events = GivesJournal journal LongJournal events
TriesJournal journal stop.Memory events = ReadsFile most_journal_bytes journal events
TriesJournal journal _ events = ⊥

abbrev pub TriesUnits : List Name → InputStop → List Event → Type 0
TriesUnits units (stop.Unread name) events = GivesUnits units (NoUnit (string_bytes name)) events
TriesUnits units (stop.UnitTooLong name) events = GivesUnits units (UnitTooLong (string_bytes name)) events
TriesUnits units stop.Memory events = ReadsInOrder (limited most_unit_bytes units) events
TriesUnits units _ events = ⊥

abbrev pub TriesInputs : List Name → Name → InputStop → List Event → Type 0
TriesInputs units calls (stop.Unread name) events = GivesInputs units calls (NotThere (string_bytes name)) events
TriesInputs units calls (stop.UnitTooLong name) events = GivesInputs units calls (LongUnit (string_bytes name)) events
TriesInputs units calls stop.CallsTooLong events = GivesInputs units calls LongCalls events
TriesInputs units calls stop.Memory events = ReadsInOrder (limited most_unit_bytes units ++ (calls, most_calls_bytes) ∷ []) events
TriesInputs units calls _ events = ⊥
