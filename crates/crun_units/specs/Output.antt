-- Why a unit is not written into its file.
use Rattle.std.specs.Prelude.{List}
use Rattle.w2c_io.specs.Contents.{Name}
use Rattle.w2c_io.specs.Causes.{Faulted}
use Rattle.w2c_files.specs.Standing.{IsBegun}
use Rattle.c_tree.specs.Tree as tree
use Rattle.c_print.specs.Print.{print_of}
use Rattle.crun_job.specs.Lines.{Reason, Unwritten, WantOfMemory}
use Rattle.crun_units.specs.Files.{FilesSeen}

-- the file is untouched, or holds a part of the unit's text
abbrev pub IsOutputPart : List tree.Item → Name → FilesSeen → FilesSeen → Type 0
IsOutputPart unit output old new = IsBegun old.told new.told output (print_of unit)

abbrev pub StopsOutput : List tree.Item → Name → FilesSeen → FilesSeen → Reason → Type 0
StopsOutput unit output old new Unwritten =
    Faulted output old.write_faults new.write_faults new.fault_name × IsOutputPart unit output old new
StopsOutput unit output old new WantOfMemory = IsOutputPart unit output old new
StopsOutput unit output old new _ = ⊥
