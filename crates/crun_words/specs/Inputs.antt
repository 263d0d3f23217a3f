-- The files that crun reads: the units in the order of the words, then the calls file; and the file of a journal.
use Rattle.std.specs.Prelude.{◌≡◌, ◌⊎◌, ℕ, ◌*◌, ◌<◌, ◌≤◌, List, length, Option, Some, None, string_bytes}
use Rattle.std.specs.FinMap.{get}
use Rattle.w2c_io.specs.Contents.{Name, Contents, Told}
use Rattle.w2c_io.specs.Causes.{Faulted}
use Rattle.w2c_io.specs.Telling.{Tells}
use Rattle.w2c_files.specs.Reading.{AreRead, StopsReading, Missing, TooLong}
use Rattle.w2c_files.specs.Standing.{IsOneOf}
use Rattle.crun_words.specs.declared.inputs.InputStop.{InputStop}
use Rattle.crun_words.specs.declared.inputs.InputStop.TheVariants as stop
use Rattle.crun_words.specs.declared.inputs.FileStop.{FileStop}
use Rattle.crun_words.specs.declared.inputs.FileStop.TheVariants as file_stop

-- the most bytes of a unit, of 16 units together (which is no limit of its own), of the calls file, and of a journal
abbrev pub most_unit_bytes : ℕ
most_unit_bytes = 67108864

abbrev pub most_units_bytes : ℕ
most_units_bytes = 16 * most_unit_bytes

abbrev pub most_calls_bytes : ℕ
most_calls_bytes = 1048576

abbrev pub most_journal_bytes : ℕ
most_journal_bytes = 67108864

-- the units' files are there and hold these bytes, each within its limit
abbrev pub AreUnits : Contents → List Name → List (List ℕ) → Type 0
AreUnits contents units texts = AreRead most_unit_bytes most_units_bytes contents units texts

-- and so is the calls file
pub record AreInputs (contents : Contents) (units : List Name) (calls : Name) (texts : List (List ℕ)) (text : List ℕ) : Type 0 where
  pub units_are : AreUnits contents units texts
  pub calls_are : get contents calls ≡ Some text
  pub calls_fit : length text ≤ most_calls_bytes

-- the units can all be read
abbrev pub HasUnits : Contents → List Name → Type 0
HasUnits contents units = (texts : List (List ℕ)) × AreUnits contents units texts

-- a file is there, and has more bytes than this
abbrev pub IsLong : ℕ → Contents → Name → Type 0
IsLong most contents name = (text : List ℕ) × (get contents name ≡ Some text) × (most < length text)

-- the first file that is not there: a unit's, or the calls file behind all units
abbrev pub IsMissing : Contents → List Name → Name → Name → Type 0
IsMissing contents units calls name =
    StopsReading most_unit_bytes most_units_bytes contents units name Missing
    ⊎ ((name ≡ calls) × HasUnits contents units × (get contents calls ≡ None))

-- the first unit that is not read is there, and too long
abbrev pub IsLongUnit : Contents → List Name → Name → Type 0
IsLongUnit contents units name = StopsReading most_unit_bytes most_units_bytes contents units name TooLong

-- the calls file is too long, behind units that can all be read
abbrev pub IsLongCalls : Contents → List Name → Name → Type 0
IsLongCalls contents units calls =
    HasUnits contents units × IsLong most_calls_bytes contents calls

-- what reading the files comes to, by what they hold
pub data Reading : Type 0 where
  AllRead : (texts : List (List ℕ)) → (text : List ℕ) → Reading
  NotThere : (name : Name) → Reading
  LongUnit : (name : Name) → Reading
  LongCalls : Reading

abbrev pub IsReading : Contents → List Name → Name → Reading → Type 0
IsReading contents units calls (AllRead texts text) = AreInputs contents units calls texts text
IsReading contents units calls (NotThere name) = IsMissing contents units calls name
IsReading contents units calls (LongUnit name) = IsLongUnit contents units name
IsReading contents units calls LongCalls = IsLongCalls contents units calls

-- what reading the units alone comes to
pub data UnitsReading : Type 0 where
  UnitsRead : (texts : List (List ℕ)) → UnitsReading
  NoUnit : (name : Name) → UnitsReading
  UnitTooLong : (name : Name) → UnitsReading

abbrev pub IsUnitsReading : Contents → List Name → UnitsReading → Type 0
IsUnitsReading contents units (UnitsRead texts) = AreUnits contents units texts
IsUnitsReading contents units (NoUnit name) = StopsReading most_unit_bytes most_units_bytes contents units name Missing
IsUnitsReading contents units (UnitTooLong name) = IsLongUnit contents units name

-- what reading a journal's file comes to
pub data JournalReading : Type 0 where
  Held : (text : List ℕ) → JournalReading
  NoJournal : JournalReading
  LongJournal : JournalReading

abbrev pub IsJournalReading : Contents → Name → JournalReading → Type 0
IsJournalReading contents name (Held text) = (get contents name ≡ Some text) × (length text ≤ most_journal_bytes)
IsJournalReading contents name NoJournal = get contents name ≡ None
IsJournalReading contents name LongJournal = IsLong most_journal_bytes contents name

-- one of the files to be read
abbrev pub IsInput : Name → List Name → Name → Type 0
IsInput name units calls = IsOneOf name units ⊎ (name ≡ calls)

-- why the files were not all read: by their contents where they tell, and by the count of faults
abbrev pub StopsInputs : Told → List Name → Name → ℕ → ℕ → Option Name → InputStop → Type 0
StopsInputs told units calls before after named (stop.Unread name) = IsInput (string_bytes name) units calls
    × (Faulted (string_bytes name) before after named
    ⊎ ((contents : Contents) × (told ≡ Some contents) × IsMissing contents units calls (string_bytes name)))
StopsInputs told units calls before after named (stop.UnitTooLong name) =
    IsOneOf (string_bytes name) units × Tells told (λ contents. IsLongUnit contents units (string_bytes name))
StopsInputs told units calls before after named stop.CallsTooLong = Tells told (λ contents. IsLongCalls contents units calls)
StopsInputs told units calls before after named stop.Memory = Unit {0}
StopsInputs told units calls before after named _ = ⊥

-- ---- the same of the units alone, and of one file alone: the calls file, or a journal's

abbrev pub StopsUnits : Told → List Name → ℕ → ℕ → Option Name → InputStop → Type 0
StopsUnits told units before after named (stop.Unread name) = IsOneOf (string_bytes name) units
    × (Faulted (string_bytes name) before after named ⊎ ((contents : Contents) × (told ≡ Some contents)
    × StopsReading most_unit_bytes most_units_bytes contents units (string_bytes name) Missing))
StopsUnits told units before after named (stop.UnitTooLong name) =
    IsOneOf (string_bytes name) units × Tells told (λ contents. IsLongUnit contents units (string_bytes name))
StopsUnits told units before after named stop.Memory = Unit {0}
StopsUnits told units before after named _ = ⊥

-- the file of this name is the one that is read, and it is not there or cannot be read
abbrev pub IsUnread : Told → Name → ℕ → ℕ → Option Name → Name → Type 0
IsUnread told file before after named name =
    (name ≡ file) × (Faulted name before after named ⊎ ((contents : Contents) × (told ≡ Some contents) × (get contents file ≡ None)))

abbrev pub StopsCalls : Told → Name → ℕ → ℕ → Option Name → InputStop → Type 0
StopsCalls told calls before after named (stop.Unread name) = IsUnread told calls before after named (string_bytes name)
StopsCalls told calls before after named stop.CallsTooLong = Tells told (λ contents. IsLong most_calls_bytes contents calls)
StopsCalls told calls before after named stop.Memory = Unit {0}
StopsCalls told calls before after named _ = ⊥

abbrev pub StopsJournal : Told → Name → ℕ → ℕ → Option Name → InputStop → Type 0
StopsJournal told journal before after named (stop.Unread name) = IsUnread told journal before after named (string_bytes name)
StopsJournal told journal before after named stop.JournalTooLong = Tells told (λ contents. IsLong most_journal_bytes contents journal)
StopsJournal told journal before after named stop.Memory = Unit {0}
StopsJournal told journal before after named _ = ⊥

abbrev pub StopsFile : ℕ → Told → Name → ℕ → ℕ → Option Name → FileStop → Type 0
StopsFile most told file before after named (file_stop.Unread name) = IsUnread told file before after named (string_bytes name)
StopsFile most told file before after named file_stop.TooLong = Tells told (λ contents. IsLong most contents file)
StopsFile most told file before after named file_stop.Memory = Unit {0}
