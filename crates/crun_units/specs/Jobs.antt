-- What the forms that write a unit ask for, over what the files hold: linked units as one unit or a trimmed unit, to write, or the
-- first refusal. The order is: the units' files in their order, the texts of the units, the linker.
use Rattle.std.specs.Prelude.{◌≡◌, ◌⊎◌, ℕ, List, [], ◌∷◌, slice_get, Some}
use Rattle.w2c_io.specs.Contents.{Name, Contents}
use Rattle.c_tree.specs.Tree as tree
use Rattle.c_trim.specs.Trim.{IsTrimmed}
use Rattle.c_merge.specs.Merge.{merged}
use Rattle.crun_words.specs.CommandLine.{MergeLine, TrimLine}
use Rattle.crun_words.specs.Inputs.{IsUnitsReading, UnitsReading, UnitsRead, NoUnit, UnitTooLong}
use Rattle.crun_job.specs.declared.stop.Cause.{Cause}
use Rattle.crun_job.specs.declared.stop.Cause.TheVariants.{TooLong}
use Rattle.crun_job.specs.Job.{Job, Stops, Write}
use Rattle.crun_job.specs.Lines.{Refused, Unread}
use Rattle.crun_job.specs.Links.{AreLinked, IsRefusedUnit, Symbols}
use Rattle.crun_job.specs.Texts.{AreUnitTexts, IsFirstRefusedText}

-- the texts are those of linked units, as one unit; or the first refusal
abbrev pub IsMerged : MergeLine → Symbols → List (List ℕ) → Job → Type 0
IsMerged line symbols texts job =
    ((units : List (List tree.Item)) × AreLinked texts symbols units × (job ≡ Write line.output (merged units)))
    ⊎ ((number : ℕ) × (file : Name) × (why : Cause) × (slice_get line.units number ≡ Some file)
    × IsRefusedUnit texts symbols number why × (job ≡ Stops (Refused file why)))

-- the text is that of a unit, which is trimmed; or the refusal
abbrev pub IsTrimmedText : TrimLine → List (List ℕ) → Job → Type 0
IsTrimmedText line texts job =
    ((unit : List tree.Item) × (trimmed : List tree.Item) × AreUnitTexts texts (unit ∷ []) × IsTrimmed unit trimmed
    × (job ≡ Write line.output trimmed))
    ⊎ ((number : ℕ) × (why : Cause) × IsFirstRefusedText texts number why × (job ≡ Stops (Refused line.unit why)))

-- ---- behind the reading of the units

-- by what reading the units comes to
abbrev pub IsBehindUnits : (List (List ℕ) → Job → Type 0) → UnitsReading → Job → Type 0
IsBehindUnits IsOf (UnitsRead texts) job = IsOf texts job
IsBehindUnits IsOf (NoUnit file) job = job ≡ Stops (Unread file)
IsBehindUnits IsOf (UnitTooLong file) job = job ≡ Stops (Refused file TooLong)

abbrev pub IsUnitsJobBy : (UnitsReading → Type 0) → (List (List ℕ) → Job → Type 0) → Job → Type 0
IsUnitsJobBy Reads IsOf job = (reading : UnitsReading) × Reads reading × IsBehindUnits IsOf reading job

-- over what the files hold
abbrev pub IsUnitsJob : Contents → List Name → (List (List ℕ) → Job → Type 0) → Job → Type 0
IsUnitsJob contents units IsOf job = IsUnitsJobBy (IsUnitsReading contents units) IsOf job

abbrev pub IsMergeJob : MergeLine → Symbols → Contents → Job → Type 0
IsMergeJob line symbols contents job = IsUnitsJob contents line.units (IsMerged line symbols) job

abbrev pub IsTrimJob : TrimLine → Contents → Job → Type 0
IsTrimJob line contents job = IsUnitsJob contents (line.unit ∷ []) (IsTrimmedText line) job
