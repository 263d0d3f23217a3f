-- What a command line asks for: a run, a unit to write, or the first refusal; and what the texts of a run's units and of its calls
-- file come to, in the order of the texts of the units, the linker, and the lines of the calls file.
use Rattle.std.specs.Prelude.{◌≡◌, ℕ, Bool, List, slice_get, Some}
use Rattle.w2c_io.specs.Contents.{Name}
use Rattle.c_tree.specs.Tree as tree
use Rattle.c_meaning.specs.Linking.{SymbolCall}
use Rattle.crun_words.specs.CommandLine.{RunLine}
use Rattle.crun_words.specs.CallsFile.{call_lines_of}
use Rattle.crun_job.specs.Calls.{AreCalls, IsFirstRefusedLine}
use Rattle.crun_job.specs.Lines.{Reason, CallsLine, Refused}
use Rattle.crun_job.specs.Links.{AreLinked, IsRefusedUnit, Symbols}

-- A run of linked units: their items, the calls in order, how many statements are run in all, and whether the state is
-- shown behind the run. Or a unit, and the file that its text is written to.
pub data Job : Type 0 where
  Stops : (why : Reason) → Job
  Run : (units : List (List tree.Item)) → (calls : List SymbolCall) → (steps : ℕ) → (shown : Bool) → Job
  Write : (output : Name) → (unit : List tree.Item) → Job

-- the texts are those of linked units, and this holds of them
abbrev pub BehindLink : List (List ℕ) → Symbols → (List (List tree.Item) → Type 0) → Type 0
BehindLink texts symbols P = (units : List (List tree.Item)) × AreLinked texts symbols units × P units

-- what the texts of the units' files and of the calls file come to
abbrev pub IsTextsJob : RunLine → Symbols → List (List ℕ) → List ℕ → Job → Type 0
IsTextsJob line symbols texts text (Run units calls steps shown) =
    AreLinked texts symbols units × AreCalls units (call_lines_of text) calls × (steps ≡ line.steps) × (shown ≡ line.shows_state)
IsTextsJob line symbols texts text (Stops (Refused file why)) =
    (number : ℕ) × (slice_get line.units number ≡ Some file) × IsRefusedUnit texts symbols number why
IsTextsJob line symbols texts text (Stops (CallsLine number)) =
    BehindLink texts symbols (λ units. IsFirstRefusedLine units (call_lines_of text) number)
IsTextsJob line symbols texts text _ = ⊥
