-- What a command line asks for over what the files hold, and what the clauses of the top call say of it.
use Rattle.std.specs.Prelude.{◌≡◌, ◌≢◌, ◌⊎◌, ℕ, List, ◌∷◌, Option, Some, None, MatchOption, Ok}
use Rattle.std.specs.FinMap.{get}
use Rattle.w2c_io.specs.Contents.{Name, Contents, Told, HasFile, extended}
use Rattle.w2c_io.specs.Causes.{Faulted}
use Rattle.w2c_io.specs.Events.{Event, Read}
use Rattle.w2c_io.specs.Passed.{Passes}
use Rattle.w2c_io.specs.Telling.{Tells, SaysPart}
use Rattle.wast_script.specs.declared.fault.ScriptFault.TheVariants.{Memory as memory_wanted}
use Rattle.wast_script.specs.CommandLine.{Line, line_of}
use Rattle.wast_script.specs.Commands.{Command}
use Rattle.wast_script.specs.Lines.{Reason, Usage, Unwritten, WantOfMemory, Refused, Unread, status_of}
use Rattle.wast_script.specs.Scripts.{IsScript, IsFault, most_script_bytes}
use Rattle.wast_run.specs.declared.word.Word.{Word}
use Rattle.wast_run.specs.Report.{AreWords, AreWordsInTime, report_of, report_status}
use Rattle.wast_run.specs.Parts.{IsFirstMissing, IsNamed, IsPart}

-- a report on commands, each assertion with so many statements; or why there is none, whatever the commands
pub data Job : Type 0 where
  Stops : (why : Reason) → Job
  Reports : (steps : ℕ) → (commands : List Command) → Job

-- what a line asks for, by the bytes of the script, or where it is not there
abbrev pub IsJobBehind : Line → Option (List ℕ) → Job → Type 0
IsJobBehind line None job = job ≡ Stops (Unread line.script)
IsJobBehind line (Some text) (Reports steps commands) = IsScript text commands × (steps ≡ line.steps)
IsJobBehind line (Some text) (Stops (Refused why)) = IsFault text why × (why ≢ memory_wanted)
IsJobBehind line (Some text) (Stops Usage) = ⊥
IsJobBehind line (Some text) (Stops (Unread file)) = ⊥
IsJobBehind line (Some text) (Stops Unwritten) = ⊥
IsJobBehind line (Some text) (Stops WantOfMemory) = ⊥

-- a bad command line where the words have no reading, else what their line asks for
abbrev pub IsJob : List Name → Contents → Job → Type 0
IsJob words contents job = MatchOption (line_of words) (job ≡ Stops Usage) (λ line. IsJobBehind line (get contents line.script) job)

abbrev pub HasReading : List Name → Type 0
HasReading words = line_of words ≢ None

-- the status that answers a job: that of its reason; 3 where a file that a command names is not there; else that of the report
abbrev pub Answers : Contents → Job → ℕ → Type 0
Answers contents (Stops why) status = status ≡ status_of why
Answers contents (Reports steps commands) status =
    ((file : Name) × IsFirstMissing contents commands file × (status ≡ 3))
    ⊎ ((words : List Word) × AreWords contents steps commands words × (status ≡ report_status words))

abbrev pub IsAnswered : List Name → Contents → ℕ → Type 0
IsAnswered words contents status = (job : Job) × IsJob words contents job × Answers contents job status

-- the words ask for a report on these commands
abbrev pub AsksFor : List Name → Contents → (ℕ → List Command → Type 0) → Type 0
AsksFor words contents P = (steps : ℕ) × (commands : List Command) × IsJob words contents (Reports steps commands) × P steps commands

-- the words ask for a report, which the stream has gained, and this is its status
abbrev pub Reported : List Name → Contents → Option (List ℕ) → Option (List ℕ) → ℕ → Type 0
Reported words contents old new status = AsksFor words contents (λ steps commands. (all : List Word)
    × AreWordsInTime contents steps commands all × (new ≡ extended old (report_of all)) × (status ≡ report_status all))

-- the words ask for a report, of which the stream has gained a part
abbrev pub ReportedPart : List Name → Contents → Option (List ℕ) → Option (List ℕ) → Type 0
ReportedPart words contents old new = AsksFor words contents (λ steps commands. (text : List ℕ)
    × IsPart contents steps commands text × (new ≡ extended old text))

-- the stream is as at entry, or has gained a part of the report
abbrev pub GainedPart : List Name → Contents → Option (List ℕ) → Option (List ℕ) → Type 0
GainedPart words contents old new = (new ≡ old) ⊎ ReportedPart words contents old new

-- where the words ask for a report, and all files that it needs are there, the stream has gained a prefix of it
abbrev pub GainsPrefix : List Name → Contents → Option (List ℕ) → Option (List ℕ) → Type 0
GainsPrefix words contents old new = (steps : ℕ) → (commands : List Command) → (all : List Word)
    → IsJob words contents (Reports steps commands) → AreWords contents steps commands all
    → SaysPart old new (report_of all)

-- why words or a script are refused, over what the files tell
abbrev pub Refuses : List Name → Told → Reason → Type 0
Refuses words told Usage = line_of words ≡ None
Refuses words told (Refused why) = HasReading words × Tells told (λ contents. IsJob words contents (Stops (Refused why)))
Refuses words told (Unread file) = ⊥
Refuses words told Unwritten = ⊥
Refuses words told WantOfMemory = ⊥

-- the first call was the read of this file, and gave these bytes, which the file holds as far as is told
abbrev pub GivesFirst : Told → List Event → List Event → Name → List ℕ → Type 0
GivesFirst told old new name text = HasFile told name text
    × Passes old new (λ events. (rest : List Event) × (events ≡ Read name most_script_bytes (Ok text) ∷ rest))

-- one of the files that are to be read: the script, or one that a command of it names, in the bytes that its read gave
abbrev pub IsToRead : List Name → (Name → List ℕ → Type 0) → Name → Type 0
IsToRead words Gives file = MatchOption (line_of words) ⊥ (λ line. (file ≡ line.script)
    ⊎ ((text : List ℕ) × Gives line.script text × (commands : List Command) × IsScript text commands × IsNamed commands file))

-- the first of these that is not there: the script, or of those that its commands name
abbrev pub IsNotThere : List Name → Contents → Name → Type 0
IsNotThere words contents file = IsJob words contents (Stops (Unread file))
    ⊎ AsksFor words contents (λ steps commands. IsFirstMissing contents commands file)

-- why a file is not read: a read of it failed, or it is the first that is told not to be there
abbrev pub IsUnread : List Name → Told → (Name → List ℕ → Type 0) → ℕ → ℕ → Option Name → Name → Type 0
IsUnread words told Gives before after named file = IsToRead words Gives file
    × (Faulted file before after named ⊎ ((contents : Contents) × (told ≡ Some contents) × IsNotThere words contents file))
