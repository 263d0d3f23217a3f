-- What passes through the files in a call: the units are read first, each once and in order, and then the file that the line names
-- is written. What is written, and how the call ends, follows from the bytes that the reads gave.
use Rattle.std.specs.Prelude.{◌≡◌, ◌⊎◌, ℕ, List, [], ◌++◌}
use Rattle.w2c_io.specs.Contents.{Name}
use Rattle.w2c_io.specs.Events.{Event}
use Rattle.w2c_io.specs.Passed.{WritesFile, BreaksOff}
use Rattle.w2c_io.specs.declared.answers.WriteAnswer.{WriteAnswer}
use Rattle.w2c_io.specs.declared.answers.WriteAnswer.TheVariants as answer
use Rattle.w2c_files.specs.Passing.{limited, ReadsInOrder}
use Rattle.c_tree.specs.Spelled.{CSpells}
use Rattle.c_tree.specs.Tree as tree
use Rattle.c_print.specs.Print.{print_of}
use Rattle.crun_words.specs.Inputs.{most_unit_bytes}
use Rattle.crun_words.specs.Passing.{GivesUnits}
use Rattle.crun_job.specs.Job.{Job, Run, Stops, Write}
use Rattle.crun_job.specs.Lines.{Reason, Unwritten, WantOfMemory}
use Rattle.crun_units.specs.Jobs.{IsUnitsJobBy}

-- ---- what is asked for, over what the reads gave

abbrev pub IsUnitsJobOver : List Name → (List (List ℕ) → Job → Type 0) → List Event → Job → Type 0
IsUnitsJobOver units IsOf given job = IsUnitsJobBy (λ reading. GivesUnits units reading given) IsOf job

-- ---- what is written

-- why something is not written, as a reason
abbrev pub reason_for : WriteAnswer → Reason
reason_for answer.Failed = Unwritten
reason_for answer.Memory = WantOfMemory

-- Below, `Ends status` says that the call ends with a status, and `Stopped why` that it stops for a reason.

-- a unit's text, which spells the unit, is written whole, or breaks off
abbrev pub WritesUnit : (ℕ → Type 0) → (Reason → Type 0) → Name → List tree.Item → List Event → Type 0
WritesUnit Ends Stopped output unit written =
    (WritesFile output (print_of unit) written × CSpells unit (print_of unit) × Ends 0)
    ⊎ ((why : WriteAnswer) × BreaksOff output (print_of unit) why written × Stopped (reason_for why))

-- nothing is written where the job is refused
abbrev pub WritesOutput : (ℕ → Type 0) → (Reason → Type 0) → Job → List Event → Type 0
WritesOutput Ends Stopped (Stops why) written = (written ≡ []) × Stopped why
WritesOutput Ends Stopped (Write output unit) written = WritesUnit Ends Stopped output unit written
WritesOutput Ends Stopped (Run units calls steps shown) written = ⊥

-- ---- all of it

-- These files are read in order, and then the job over what the reads gave decides; or memory is wanting, and nothing is written.
pub record PassesBy (files : List (Name × ℕ)) (Asks : List Event → Job → Type 0) (Writes : List Event → Job → List Event → Type 0)
    (Stopped : Reason → Type 0) (events : List Event) : Type 0 where
  pub given : List Event
  pub written : List Event
  pub split : events ≡ given ++ written
  pub reads : ReadsInOrder files given
  pub follows : ((written ≡ []) × Stopped WantOfMemory) ⊎ ((job : Job) × Asks given job × Writes given job written)

abbrev pub PassesUnits : List Name → (List (List ℕ) → Job → Type 0) → (ℕ → Type 0) → (Reason → Type 0) → List Event → Type 0
PassesUnits units IsOf Ends Stopped events = PassesBy (limited most_unit_bytes units) (IsUnitsJobOver units IsOf)
    (λ given. WritesOutput Ends Stopped) Stopped events
