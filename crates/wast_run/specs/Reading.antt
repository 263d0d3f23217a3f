-- What each part of the code reads, and why it stops.
use Rattle.std.specs.Prelude.{◌≡◌, ◌≢◌, ◌⊎◌, ℕ, ◌+◌, Bool, ◌==◌, List, [], length, Option, Some, None, Ok, Err, ⊤}
use Rattle.w2c_io.specs.Contents.{Name, Told, HasFile, extended}
use Rattle.w2c_io.specs.Events.{Event}
use Rattle.w2c_io.specs.Telling.{SaysPart}
use Rattle.w2c_io.specs.declared.answers.ReadAnswer.TheVariants as reading
use Rattle.wasm_valid.specs.FileVerdict.{FileVerdict}
use Rattle.wast_script.specs.declared.fault.ScriptFault.{ScriptFault}
use Rattle.wast_script.specs.declared.fault.ScriptFault.TheVariants as fault
use Rattle.wast_script.specs.Commands as script
use Rattle.wast_script.specs.Commands.{Command}
use Rattle.wast_script.specs.Lines.{Reason, Usage, Unwritten, WantOfMemory, Refused, Unread}
use Rattle.wast_script.specs.Scripts.{IsFault, IsScript}
use Rattle.wast_run.specs.declared.judging.Judged.{Judged}
use Rattle.wast_run.specs.declared.stage.Stage.{Stage}
use Rattle.wast_run.specs.declared.word.Word.{Word}
use Rattle.wast_run.specs.Report.{ComesBy, IsTimely, Setting, at_first, command_line, lines_of, ok_count, report_of}
use Rattle.wast_run.specs.Parts.{file_of}
use Rattle.wast_run.specs.Judging.{Agrees}
use Rattle.wast_run.specs.Stages.{setting_of}
use Rattle.wast_run.specs.Passing.{Answer, ComesOver, IsNoFile, IsReadAs, LeadOver, module_read, script_read}

-- ---- the file of a module

-- it was read and judged
abbrev pub JudgesFile : Name → Judged → List Event → Type 0
JudgesFile name j events = (verdict : Option FileVerdict) × IsReadAs events name verdict × Agrees j verdict

-- by what is said of it, an assertion comes to this word
abbrev pub JudgesSo : (Option FileVerdict → Word) → Name → Word → List Event → Type 0
JudgesSo says name w events = (verdict : Option FileVerdict) × IsReadAs events name verdict × (w ≡ says verdict)

-- it was read, and this is why nothing is said of it
abbrev pub StopsRead : Name → Reason → List Event → Type 0
StopsRead name (Unread file) events = (file ≡ name) × (answer : Answer) × IsNoFile answer × (events ≡ module_read name answer)
StopsRead name WantOfMemory events = (answer : Answer) × (events ≡ module_read name answer)
StopsRead name Usage events = ⊥
StopsRead name (Refused why) events = ⊥
StopsRead name Unwritten events = ⊥

-- ---- commands

abbrev pub ModuleComesOver : Stage → script.ModuleFile → Word → Stage → List Event → Type 0
ModuleComesOver before file w after events = ComesBy (IsReadAs events) 0 (setting_of before) (script.Module file) w (setting_of after)

-- a command, by the file that it names
abbrev pub StopsOver : Option Name → Reason → List Event → Type 0
StopsOver None why events = (why ≡ WantOfMemory) × (events ≡ [])
StopsOver (Some file) why events = StopsRead file why events

-- the command with so many before it came to its word, and its line is written
abbrev pub TellsOver : ℕ → ℕ → Setting → Command → Word → Setting → Option (List ℕ) → Option (List ℕ) → List Event → Type 0
TellsOver steps index at command w after old new events =
    ComesOver events steps at command w after × IsTimely steps at command w × (new ≡ extended old (command_line (index + 1) w))

-- a line that is not written
abbrev pub IsOfLine : Reason → Type 0
IsOfLine Unwritten = ⊤
IsOfLine WantOfMemory = ⊤
IsOfLine Usage = ⊥
IsOfLine (Refused why) = ⊥
IsOfLine (Unread file) = ⊥

-- it came to no word; or it came to one, and a part of its line is written
abbrev pub StopsTellingOver : ℕ → ℕ → Setting → Command → Option (List ℕ) → Option (List ℕ) → Reason → List Event → Type 0
StopsTellingOver steps index at command old new why events =
    (StopsOver (file_of command) why events × (new ≡ old))
    ⊎ ((w : Word) × (after : Setting) × ComesOver events steps at command w after × IsTimely steps at command w
    × SaysPart old new (command_line (index + 1) w) × IsOfLine why)

-- the lines of the first commands are written, and so many of them are ok
pub record IsBehindOver (steps : ℕ) (front : List Command) (at : Setting) (old now : Option (List ℕ)) (ok : ℕ) (events : List Event)
    : Type 0 where
  pub words : List Word
  pub lead : LeadOver steps at_first front words at events
  pub written : now ≡ extended old (lines_of words)
  pub counted : ok ≡ ok_count words

-- the whole report is written
abbrev pub HasReportedOver : ℕ → List Command → Option (List ℕ) → Option (List ℕ) → Bool → List Event → Type 0
HasReportedOver steps commands old new all_ok events = (words : List Word) × (after : Setting)
    × LeadOver steps at_first commands words after events
    × (new ≡ extended old (report_of words)) × (all_ok ≡ (ok_count words == length words))

-- ---- the script

-- it was read, and said these commands
abbrev pub ReadsScript : Told → Name → List Command → List Event → Type 0
ReadsScript told name commands events =
    (text : List ℕ) × (events ≡ script_read name (Ok text)) × HasFile told name text × IsScript text commands

-- what was read says no script
abbrev pub IsFaultBy : Answer → ScriptFault → Type 0
IsFaultBy (Ok text) why = IsFault text why × (why ≢ fault.Memory)
IsFaultBy (Err reading.TooLong) why = why ≡ fault.TooLong
IsFaultBy (Err reading.Absent) why = ⊥
IsFaultBy (Err reading.Failed) why = ⊥
IsFaultBy (Err reading.Memory) why = ⊥

abbrev pub IsStopBy : Name → Answer → Reason → Type 0
IsStopBy name answer (Unread file) = (file ≡ name) × IsNoFile answer
IsStopBy name answer (Refused why) = IsFaultBy answer why
IsStopBy name answer WantOfMemory = ⊤
IsStopBy name answer Usage = ⊥
IsStopBy name answer Unwritten = ⊥

-- it was read, and this is why it says no commands
abbrev pub StopsScriptOver : Name → Reason → List Event → Type 0
StopsScriptOver name why events = (answer : Answer) × (events ≡ script_read name answer) × IsStopBy name answer why
