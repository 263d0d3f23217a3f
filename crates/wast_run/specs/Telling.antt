-- What the code has written behind a command, and behind all of them.
use Rattle.std.specs.Prelude.{◌≡◌, ◌⊎◌, ℕ, ◌+◌, Bool, ◌==◌, List, length, Option, Some}
use Rattle.w2c_io.specs.Contents.{Name, Contents, Told, extended}
use Rattle.w2c_io.specs.Causes.{Rose}
use Rattle.w2c_io.specs.Telling.{Tells, SaysPart}
use Rattle.wast_script.specs.Commands.{Command}
use Rattle.wast_script.specs.Lines.{Reason, Usage, Unwritten, WantOfMemory, Refused, Unread}
use Rattle.wast_run.specs.declared.word.Word.{Word}
use Rattle.wast_run.specs.Report.{AreWordsInTime, Comes, IsTimely, LeadInTime, Setting, at_first, command_line, lines_of, ok_count}
use Rattle.wast_run.specs.Report.{report_of}
use Rattle.wast_run.specs.Parts.{file_of}
use Rattle.wast_run.specs.Stopping.{IsUnreadFile}

-- the command with so many before it has come to its word, and its line is written
abbrev pub TellsCommand : Contents → ℕ → ℕ → Setting → Command → Word → Setting → Option (List ℕ) → Option (List ℕ)
    → Type 0
TellsCommand contents steps index at command w after old new =
    Comes contents steps at command w after × IsTimely steps at command w × (new ≡ extended old (command_line (index + 1) w))

-- the lines of the first commands are written, and so many of them are ok
pub record IsBehind (contents : Contents) (steps : ℕ) (front : List Command) (at : Setting) (old now : Option (List ℕ)) (ok : ℕ)
    : Type 0 where
  pub words : List Word
  pub lead : LeadInTime contents steps at_first front words at
  pub written : now ≡ extended old (lines_of words)
  pub counted : ok ≡ ok_count words

-- nothing is written, or a part of its line
abbrev pub TellsPart : Contents → ℕ → ℕ → Setting → Command → Option (List ℕ) → Option (List ℕ) → Type 0
TellsPart contents steps index at command old new = (new ≡ old)
    ⊎ ((w : Word) × (after : Setting) × Comes contents steps at command w after × IsTimely steps at command w
    × SaysPart old new (command_line (index + 1) w))

abbrev pub StopsTelling : Told → ℕ → ℕ → Setting → Command → ℕ → ℕ → Option Name → Option (List ℕ) → Option (List ℕ) → ℕ → ℕ → Reason
    → Type 0
StopsTelling told steps index at command reads reads' named old new faults faults' (Unread file) =
    (file_of command ≡ Some file) × IsUnreadFile told file reads reads' named × (new ≡ old)
StopsTelling told steps index at command reads reads' named old new faults faults' Unwritten =
    Rose faults faults' × Tells told (λ contents. TellsPart contents steps index at command old new)
StopsTelling told steps index at command reads reads' named old new faults faults' WantOfMemory =
    Tells told (λ contents. TellsPart contents steps index at command old new)
StopsTelling told steps index at command reads reads' named old new faults faults' Usage = ⊥
StopsTelling told steps index at command reads reads' named old new faults faults' (Refused why) = ⊥

-- the whole report is written
abbrev pub HasReported : Contents → ℕ → List Command → Option (List ℕ) → Option (List ℕ) → Bool → Type 0
HasReported contents steps commands old new all_ok = (words : List Word) × AreWordsInTime contents steps commands words
    × (new ≡ extended old (report_of words)) × (all_ok ≡ (ok_count words == length words))
