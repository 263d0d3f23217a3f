-- Why the work stops: what each step says of its stop. Want of memory says nothing of the cause.
use Rattle.std.specs.Prelude.{◌≡◌, ◌≢◌, ◌⊎◌, ℕ, List, Option, Some, None, ⊤}
use Rattle.std.specs.FinMap.{get}
use Rattle.w2c_io.specs.Contents.{Name, Contents, Told, extended}
use Rattle.w2c_io.specs.Causes.{Rose, Faulted}
use Rattle.w2c_io.specs.Telling.{Tells}
use Rattle.wast_script.specs.Lines.{Reason, Usage, Unwritten, WantOfMemory, Refused, Unread}
use Rattle.wast_script.specs.declared.fault.ScriptFault.{ScriptFault}
use Rattle.wast_script.specs.declared.fault.ScriptFault.TheVariants.{Memory as memory_wanted}
use Rattle.wast_script.specs.CommandLine.{line_of}
use Rattle.wast_script.specs.Commands.{Command}
use Rattle.wast_script.specs.Scripts.{IsFault}
use Rattle.wast_run.specs.Parts.{IsFirstMissing, IsNamed, IsPart}
use Rattle.wast_run.specs.Jobs.{GainedPart, HasReading, IsUnread, Refuses, ReportedPart}

-- a file that is not read: a read of it failed, or it is told not to be there
abbrev pub IsUnreadFile : Told → Name → ℕ → ℕ → Option Name → Type 0
IsUnreadFile told file before after named =
    Faulted file before after named ⊎ ((contents : Contents) × (told ≡ Some contents) × (get contents file ≡ None))

-- the stop at a file that is not read: it has the name, unless memory was wanting for that
abbrev pub IsUnreadStop : Name → Reason → Type 0
IsUnreadStop file why = (why ≡ Unread file) ⊎ (why ≡ WantOfMemory)

-- the stop at a script that is refused
abbrev pub fault_reason : ScriptFault → Reason
fault_reason memory_wanted = WantOfMemory
fault_reason why = Refused why

abbrev pub StopsFile : Told → Name → ℕ → ℕ → Option Name → Reason → Type 0
StopsFile told file before after named (Unread name) = (name ≡ file) × IsUnreadFile told file before after named
StopsFile told file before after named WantOfMemory = ⊤
StopsFile told file before after named Usage = ⊥
StopsFile told file before after named (Refused why) = ⊥
StopsFile told file before after named Unwritten = ⊥

-- a command, by the file that it names
abbrev pub StopsCommand : Told → Option Name → ℕ → ℕ → Option Name → Reason → Type 0
StopsCommand told file before after named (Unread name) = (file ≡ Some name) × IsUnreadFile told name before after named
StopsCommand told file before after named WantOfMemory = ⊤
StopsCommand told file before after named Usage = ⊥
StopsCommand told file before after named (Refused why) = ⊥
StopsCommand told file before after named Unwritten = ⊥

-- a line of the report
abbrev pub StopsLine : ℕ → ℕ → Reason → Type 0
StopsLine before after Unwritten = Rose before after
StopsLine before after WantOfMemory = ⊤
StopsLine before after Usage = ⊥
StopsLine before after (Refused why) = ⊥
StopsLine before after (Unread file) = ⊥

-- the stream has gained a part of the report on these commands
abbrev pub HasGained : Contents → ℕ → List Command → Option (List ℕ) → Option (List ℕ) → Type 0
HasGained contents steps commands old new = (text : List ℕ) × IsPart contents steps commands text × (new ≡ extended old text)

-- the commands of a script
abbrev pub StopsReport : Told → ℕ → List Command → ℕ → ℕ → Option Name → Option (List ℕ) → Option (List ℕ) → ℕ → ℕ → Reason → Type 0
StopsReport told steps commands reads reads' named old new faults faults' (Unread file) = IsNamed commands file
    × (Faulted file reads reads' named ⊎ ((contents : Contents) × (told ≡ Some contents) × IsFirstMissing contents commands file))
    × Tells told (λ contents. HasGained contents steps commands old new)
StopsReport told steps commands reads reads' named old new faults faults' Unwritten =
    Rose faults faults' × Tells told (λ contents. HasGained contents steps commands old new)
StopsReport told steps commands reads reads' named old new faults faults' WantOfMemory =
    Tells told (λ contents. HasGained contents steps commands old new)
StopsReport told steps commands reads reads' named old new faults faults' Usage = ⊥
StopsReport told steps commands reads reads' named old new faults faults' (Refused why) = ⊥

-- the words
abbrev pub StopsWords : List Name → Reason → Type 0
StopsWords words Usage = line_of words ≡ None
StopsWords words WantOfMemory = ⊤
StopsWords words (Refused why) = ⊥
StopsWords words (Unread file) = ⊥
StopsWords words Unwritten = ⊥

-- the script: by its bytes, where the files tell
abbrev pub StopsScript : Told → Name → ℕ → ℕ → Option Name → Reason → Type 0
StopsScript told file before after named (Unread name) = (name ≡ file) × IsUnreadFile told file before after named
StopsScript told file before after named (Refused why) = (why ≢ memory_wanted)
    × Tells told (λ contents. (text : List ℕ) × (get contents file ≡ Some text) × IsFault text why)
StopsScript told file before after named WantOfMemory = ⊤
StopsScript told file before after named Usage = ⊥
StopsScript told file before after named Unwritten = ⊥

-- the whole work
abbrev pub StopsWork : List Name → Told → (Name → List ℕ → Type 0) → ℕ → ℕ → Option Name → Option (List ℕ) → Option (List ℕ) → ℕ → ℕ
    → Reason → Type 0
StopsWork words told Gives reads reads' named old new faults faults' Usage = Refuses words told Usage × (new ≡ old)
StopsWork words told Gives reads reads' named old new faults faults' (Refused why) = Refuses words told (Refused why) × (new ≡ old)
StopsWork words told Gives reads reads' named old new faults faults' (Unread file) =
    IsUnread words told Gives reads reads' named file × Tells told (λ contents. GainedPart words contents old new)
StopsWork words told Gives reads reads' named old new faults faults' Unwritten =
    Rose faults faults' × HasReading words × Tells told (λ contents. ReportedPart words contents old new)
StopsWork words told Gives reads reads' named old new faults faults' WantOfMemory =
    Tells told (λ contents. GainedPart words contents old new)
