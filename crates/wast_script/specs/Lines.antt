-- The one line on the error stream, and the status that goes with it.
use Rattle.std.specs.Prelude.{ℕ, List, ◌++◌, codes}
use Rattle.std.specs.Fmt.{decimal}
use Rattle.w2c_io.specs.Contents.{Name}
use Rattle.wast_script.specs.declared.fault.ScriptFault.{ScriptFault}
use Rattle.wast_script.specs.declared.fault.ScriptFault.TheVariants as fault

-- Why the program stops before its report is whole: the words, the script, a file that is not read, a line of the report that is
-- not written, and want of memory.
pub data Reason : Type 0 where
  Usage Unwritten WantOfMemory : Reason
  Refused : (why : ScriptFault) → Reason
  Unread : (file : Name) → Reason

abbrev pub fault_text : ScriptFault → List ℕ
fault_text fault.TooLong = codes "script too long"
fault_text fault.NotJson = codes "script is not JSON"
fault_text fault.NoCommands = codes "no commands"
fault_text (fault.Command number) = codes "command " ++ decimal number
fault_text fault.Memory = codes "want of memory"

abbrev pub reason_text : Reason → List ℕ
reason_text Usage = codes "bad command line"
reason_text (Refused why) = fault_text why
reason_text (Unread file) = file ++ codes ": read fault"
reason_text Unwritten = codes "write fault"
reason_text WantOfMemory = codes "want of memory"

abbrev pub error_line : Reason → List ℕ
error_line why = codes "wast_run: " ++ reason_text why ++ codes "\n"

abbrev pub fault_status : ScriptFault → ℕ
fault_status fault.TooLong = 2
fault_status fault.NotJson = 2
fault_status fault.NoCommands = 2
fault_status (fault.Command number) = 2
fault_status fault.Memory = 5

abbrev pub status_of : Reason → ℕ
status_of Usage = 2
status_of (Refused why) = fault_status why
status_of (Unread file) = 3
status_of Unwritten = 4
status_of WantOfMemory = 5
