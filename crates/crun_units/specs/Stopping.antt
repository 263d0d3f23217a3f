-- Why a unit that is asked for is not written: before its file is begun, or in the middle of it.
use Rattle.std.specs.Prelude.{◌≡◌, ◌⊎◌, List, Some}
use Rattle.w2c_io.specs.Contents.{Name, Contents}
use Rattle.w2c_io.specs.Causes.{Faulted}
use Rattle.w2c_io.specs.Telling.{Tells}
use Rattle.w2c_files.specs.Standing.{IsBegun, IsOneOf}
use Rattle.c_tree.specs.Tree as tree
use Rattle.c_print.specs.Print.{print_of}
use Rattle.crun_job.specs.Job.{Job, Stops, Write}
use Rattle.crun_job.specs.Lines.{Reason, Refused, Unread, Unwritten, WantOfMemory}
use Rattle.crun_units.specs.Files.{AreUntouched, FilesSeen}

-- a unit is asked for, and of its text a part is written
abbrev pub IsUnitPart : (Contents → Job → Type 0) → Name → Contents → FilesSeen → FilesSeen → Type 0
IsUnitPart Asks output contents old new =
    (unit : List tree.Item) × Asks contents (Write output unit) × IsBegun old.told new.told output (print_of unit)

abbrev pub StopsWrite : (Contents → Job → Type 0) → List Name → Name → FilesSeen → FilesSeen → Reason → Type 0
StopsWrite Asks units output old new (Unread file) = IsOneOf file units
    × (Faulted file old.read_faults new.read_faults new.fault_name
    ⊎ ((contents : Contents) × (old.told ≡ Some contents) × Asks contents (Stops (Unread file)))) × AreUntouched old new
StopsWrite Asks units output old new (Refused file why) =
    IsOneOf file units × Tells old.told (λ contents. Asks contents (Stops (Refused file why))) × AreUntouched old new
StopsWrite Asks units output old new Unwritten = Faulted output old.write_faults new.write_faults new.fault_name
    × Tells old.told (λ contents. IsUnitPart Asks output contents old new)
StopsWrite Asks units output old new WantOfMemory =
    Tells old.told (λ contents. AreUntouched old new ⊎ IsUnitPart Asks output contents old new)
StopsWrite Asks units output old new _ = ⊥
