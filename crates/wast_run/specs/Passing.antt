-- What passes through the files: the script is read, then the files that its commands name, in their order. The status, the report and
-- the line on the error stream are those of the bytes that the reads gave.
use Rattle.std.specs.List.{AllByRecursion}
use Rattle.std.specs.Prelude.{◌≡◌, ◌⊎◌, ℕ, List, [], ◌∷◌, ◌++◌, Option, Some, None, Result, Ok, Err, MatchOption, ⊤}
use Rattle.w2c_io.specs.Contents.{Name, Contents, Told, IsPrefix, extended}
use Rattle.w2c_io.specs.Events.{Event, Read}
use Rattle.w2c_io.specs.Honest.{AreHonest}
use Rattle.w2c_io.specs.declared.answers.ReadAnswer.{ReadAnswer}
use Rattle.w2c_io.specs.declared.answers.ReadAnswer.TheVariants as reading
use Rattle.wasm_tree.specs.Limits.{most_module_bytes}
use Rattle.wasm_valid.specs.FileVerdict.{FileVerdict}
use Rattle.wast_script.specs.declared.fault.ScriptFault.TheVariants as fault
use Rattle.wast_script.specs.CommandLine.{Line, line_of}
use Rattle.wast_script.specs.Commands.{Command}
use Rattle.wast_script.specs.Lines.{Reason, Usage, Unwritten, WantOfMemory, Refused, Unread, error_line, status_of}
use Rattle.wast_script.specs.Scripts.{IsScript, most_script_bytes}
use Rattle.wast_run.specs.declared.word.Word.{Word}
use Rattle.wast_run.specs.Report.{ComesBy, IsJudged, IsTimely, Setting, at_first, lines_of, report_of, report_status}
use Rattle.wast_run.specs.Parts.{file_of, lines_before, IsNamed}
use Rattle.wast_run.specs.Jobs.{IsJobBehind, Job, Reports, Stops}

-- ---- reads

abbrev pub Answer : Type 0
Answer = Result (List ℕ) ReadAnswer

-- no file is there, or it can't be read
abbrev pub IsNoFile : Answer → Type 0
IsNoFile (Ok bytes) = ⊥
IsNoFile (Err reading.Absent) = ⊤
IsNoFile (Err reading.Failed) = ⊤
IsNoFile (Err reading.TooLong) = ⊥
IsNoFile (Err reading.Memory) = ⊥

-- the script was read, within its limit; the file of a module was read, within the limit of a module
abbrev pub script_read : Name → Answer → List Event
script_read file answer = Read file most_script_bytes answer ∷ []

abbrev pub module_read : Name → Answer → List Event
module_read file answer = Read file most_module_bytes answer ∷ []

-- the verdict on what the read of a module's file gave; none where that is too long
abbrev pub IsGiven : Answer → Option FileVerdict → Type 0
IsGiven (Ok bytes) verdict = IsJudged bytes verdict
IsGiven (Err reading.TooLong) verdict = verdict ≡ None
IsGiven (Err reading.Absent) verdict = ⊥
IsGiven (Err reading.Failed) verdict = ⊥
IsGiven (Err reading.Memory) verdict = ⊥

-- this file was read, once, and this is the verdict on what that gave
abbrev pub IsReadAs : List Event → Name → Option FileVerdict → Type 0
IsReadAs events name verdict = (answer : Answer) × (events ≡ module_read name answer) × IsGiven answer verdict

-- ---- commands

-- a command came to this word, over what the read of its file gave; where it names no file, nothing was read
abbrev pub ComesOver : List Event → ℕ → Setting → Command → Word → Setting → Type 0
ComesOver events steps at command w after =
    ComesBy (IsReadAs events) steps at command w after × (file_of command ≡ None → events ≡ [])

-- commands came to these words, one after another, each of which is timely
abbrev pub LeadOver : ℕ → Setting → List Command → List Word → Setting → List Event → Type 0
LeadOver steps at [] words after events = (words ≡ []) × (after ≡ at) × (events ≡ [])
LeadOver steps at (command ∷ commands) words after events =
    (w : Word) × (others : List Word) × (between : Setting) × (first : List Event) × (rest : List Event)
    × (ComesOver first steps at command w between × IsTimely steps at command w)
    × LeadOver steps between commands others after rest × (words ≡ w ∷ others) × (events ≡ first ++ rest)

-- the file that the next command names was read
abbrev pub ReadsNext : List Command → Name → Answer → List Event → Type 0
ReadsNext [] file answer events = ⊥
ReadsNext (command ∷ rest) file answer events = (file_of command ≡ Some file) × (events ≡ module_read file answer)

-- what was read for the next of these commands, where a run stops for this reason: its file, which can't be had; nothing, where a
-- line is not written; its file or nothing, where memory is wanting
abbrev pub LastReads : Reason → List Command → List Event → Type 0
LastReads (Unread file) rest events = (answer : Answer) × ReadsNext rest file answer events × IsNoFile answer
LastReads Unwritten rest events = events ≡ []
LastReads WantOfMemory rest events = (events ≡ []) ⊎ ((file : Name) × (answer : Answer) × ReadsNext rest file answer events)
LastReads Usage rest events = ⊥
LastReads (Refused why) rest events = ⊥

-- what was written, where the first commands have these words: their lines, where the file of the next can't be had; else a prefix of
-- the lines, or where no command is left of the report
abbrev pub LastLines : Reason → List Word → List Command → List ℕ → Type 0
LastLines (Unread file) words rest text = text ≡ lines_of words
LastLines Unwritten words rest text = IsPrefix text (lines_before words rest)
LastLines WantOfMemory words rest text = IsPrefix text (lines_before words rest)
LastLines Usage words rest text = ⊥
LastLines (Refused why) words rest text = ⊥

-- the run stopped for this reason in the midst of commands, of which the first came to their words
pub record StopsIn (steps : ℕ) (commands : List Command) (old new : Option (List ℕ)) (why : Reason) (events : List Event) : Type 0 where
  pub front : List Command
  pub rest : List Command
  pub split : commands ≡ front ++ rest
  pub words : List Word
  pub after : Setting
  pub first : List Event
  pub last : List Event
  pub calls : events ≡ first ++ last
  pub lead : LeadOver steps at_first front words after first
  pub stop : LastReads why rest last
  pub text : List ℕ
  pub lines : LastLines why words rest text
  pub gained : new ≡ extended old text

-- ---- the whole run

-- a run ended with a report of this status, or for this reason
abbrev pub Ending : Type 0
Ending = Result ℕ Reason

-- commands were reported on, or the run stopped in their midst
abbrev pub ReportsOver : ℕ → List Command → Option (List ℕ) → Option (List ℕ) → Ending → List Event → Type 0
ReportsOver steps commands old new (Ok status) events =
    (words : List Word) × (after : Setting) × LeadOver steps at_first commands words after events
    × (new ≡ extended old (report_of words)) × (status ≡ report_status words)
ReportsOver steps commands old new (Err why) events = StopsIn steps commands old new why events

-- what a line asks for by what the read of its script gave
abbrev pub IsJobBy : Line → Answer → Job → Type 0
IsJobBy line (Ok text) job = IsJobBehind line (Some text) job
IsJobBy line (Err reading.Absent) job = IsJobBehind line None job
IsJobBy line (Err reading.Failed) job = IsJobBehind line None job
IsJobBy line (Err reading.TooLong) job = job ≡ Stops (Refused fault.TooLong)
IsJobBy line (Err reading.Memory) job = ⊥

-- what a job comes to, with what is read behind the script
abbrev pub DoesJob : Option (List ℕ) → Option (List ℕ) → Job → Ending → List Event → Type 0
DoesJob old new (Stops why) ending events = (ending ≡ Err why) × (new ≡ old) × (events ≡ [])
DoesJob old new (Reports steps commands) ending events = ReportsOver steps commands old new ending events

-- memory was wanting before the commands, with the script read or not
abbrev pub WantsMemory : Line → Option (List ℕ) → Option (List ℕ) → Ending → List Event → Type 0
WantsMemory line old new ending events = (ending ≡ Err WantOfMemory) × (new ≡ old)
    × ((events ≡ []) ⊎ ((answer : Answer) × (events ≡ script_read line.script answer)))

-- the script was read, and the job was done that it asks for
abbrev pub DoesLine : Line → Option (List ℕ) → Option (List ℕ) → Ending → List Event → Type 0
DoesLine line old new ending events = (answer : Answer) × (job : Job) × (given : List Event)
    × IsJobBy line answer job × DoesJob old new job ending given × (events ≡ script_read line.script answer ++ given)

-- what words come to, with what passes through the files; where they have no reading, nothing passes
abbrev pub EndsSo : List Name → Option (List ℕ) → Option (List ℕ) → Ending → List Event → Type 0
EndsSo words old new ending events = MatchOption (line_of words)
    ((events ≡ []) × (new ≡ old) × ((ending ≡ Err Usage) ⊎ (ending ≡ Err WantOfMemory)))
    (λ line. WantsMemory line old new ending events ⊎ DoesLine line old new ending events)

-- the status that answers an ending, and the line that is said; 5 where memory is wanting for the line
abbrev pub IsStatusOf : Ending → ℕ → (List ℕ → Type 0) → Type 0
IsStatusOf (Ok done) status Says = status ≡ done
IsStatusOf (Err why) status Says = ((status ≡ status_of why) × Says (error_line why)) ⊎ (status ≡ 5)

-- what passes for words, where a report's stream holds this before and behind, with this status, and where these lines are said
abbrev pub PassesFor : List Name → Option (List ℕ) → Option (List ℕ) → ℕ → (List ℕ → Type 0) → List Event → Type 0
PassesFor words old new status Says events =
    (ending : Ending) × EndsSo words old new ending events × IsStatusOf ending status Says

-- the call was a read, within the limit of a module, of a file that a command names
abbrev pub IsReadOf : List Command → Event → Type 0
IsReadOf commands event = (file : Name) × (answer : Answer) × IsNamed commands file × (event ≡ Read file most_module_bytes answer)

-- these are such reads, for the script that this answer gave; there are none, where it gave none
abbrev pub AreReadsFor : Answer → List Event → Type 0
AreReadsFor (Ok text) events =
    (events ≡ []) ⊎ ((commands : List Command) × IsScript text commands × AllByRecursion (IsReadOf commands) events)
AreReadsFor (Err why) events = events ≡ []

-- nothing was begun, put or finished: nothing passed, or the script was read, once, and then files that its commands name
abbrev pub OnlyReads : List Name → List Event → Type 0
OnlyReads words events = (events ≡ []) ⊎ ((line : Line) × (answer : Answer) × (given : List Event)
    × (line_of words ≡ Some line) × AreReadsFor answer given × (events ≡ script_read line.script answer ++ given))

-- P of all that passes for words, where the files held this and behaved as files, and of what they tell then
abbrev pub Honestly : List Name → Contents → Option (List ℕ) → Option (List ℕ) → ℕ → (List ℕ → Type 0) → (List Event → Told → Type 0)
    → Type 0
Honestly words m old new status Says P = (events : List Event) (current : Option Name) (told : Told) (after : Option Name)
    → PassesFor words old new status Says events → AreHonest events (Some m) current told after → P events told
