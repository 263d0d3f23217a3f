-- Parts of a report, for a program that stops in its midst, and files that are not there.
use Rattle.std.specs.Prelude.{◌≡◌, ◌≢◌, ℕ, List, [], ◌∷◌, ◌++◌, Option, Some, None}
use Rattle.std.specs.List.{AllByRecursion}
use Rattle.std.specs.FinMap.{get}
use Rattle.w2c_io.specs.Contents.{Name, Contents, IsPrefix, extended}
use Rattle.wast_script.specs.Commands as script
use Rattle.wast_script.specs.Commands.{Command}
use Rattle.wast_run.specs.declared.word.Word.{Word}
use Rattle.wast_run.specs.Report.{Setting, LeadInTime, at_first, lines_of, report_of}

-- the file that a command names
abbrev pub file_of : Command → Option Name
file_of (script.Module file) = Some file.filename
file_of (script.Invoke call) = None
file_of (script.AssertReturn call expected) = None
file_of (script.AssertTrap call cause) = None
file_of (script.AssertInvalid file) = Some file
file_of (script.AssertMalformed file) = Some file

-- the file that a command names, if it names one, is there
abbrev pub HasItsFile : Contents → Command → Type 0
HasItsFile contents command = (name : Name) → file_of command ≡ Some name → get contents name ≢ None

-- one of the commands names this file
pub record IsNamed (commands : List Command) (file : Name) : Type 0 where
  pub front : List Command
  pub command : Command
  pub rest : List Command
  pub split : commands ≡ front ++ command ∷ rest
  pub names : file_of command ≡ Some file

-- the first file that commands name and that is not there
pub record IsFirstMissing (contents : Contents) (commands : List Command) (file : Name) : Type 0 where
  pub front : List Command
  pub command : Command
  pub rest : List Command
  pub split : commands ≡ front ++ command ∷ rest
  pub there : AllByRecursion (HasItsFile contents) front
  pub names : file_of command ≡ Some file
  pub missing : get contents file ≡ None

-- the lines of the first commands, which have these words; with the last line where no command is left
abbrev pub lines_before : List Word → List Command → List ℕ
lines_before words [] = report_of words
lines_before words (command ∷ rest) = lines_of words

-- The text is a part of the report on commands, whose words are timely: a prefix of the lines of the first of them, or of all and
-- the last line.
pub record IsPart (contents : Contents) (steps : ℕ) (commands : List Command) (text : List ℕ) : Type 0 where
  pub front : List Command
  pub rest : List Command
  pub split : commands ≡ front ++ rest
  pub words : List Word
  pub after : Setting
  pub lead : LeadInTime contents steps at_first front words after
  pub prefix : IsPrefix text (lines_before words rest)

-- The text is a prefix of the lines of the first of these commands, or of all of them; their words are timely.
pub record IsPartOfLines (contents : Contents) (steps : ℕ) (commands : List Command) (text : List ℕ) : Type 0 where
  pub front : List Command
  pub rest : List Command
  pub split : commands ≡ front ++ rest
  pub words : List Word
  pub after : Setting
  pub lead : LeadInTime contents steps at_first front words after
  pub prefix : IsPrefix text (lines_of words)

-- a stream has gained such a part
abbrev pub GainsLinesBefore : Contents → ℕ → List Command → Option (List ℕ) → Option (List ℕ) → Type 0
GainsLinesBefore contents steps before old new = (text : List ℕ) × IsPartOfLines contents steps before text × (new ≡ extended old text)
