-- What a text says as a script, or the first reason why it is none. A script is a JSON object whose member `commands` is an
-- array of at most 10,000 objects, each of the form of a command.
use Rattle.std.specs.Prelude.{◌≡◌, ℕ, ◌<◌, ◌≤◌, ◌&&◌, Bool, List, length, nat_le, IsUtf8, ⊤, codes, Option, Some, None, is_some}
use Rattle.std.specs.Prelude.{if◌then◌else◌, option_and_then}
use Rattle.std.specs.List.{list_all, position_from}
use Rattle.serde_json.specs.Data.{Data}
use Rattle.serde_json.specs.Find.{as_object}
use Rattle.serde_json.specs.Read.{read}
use Rattle.wast_script.specs.declared.fault.ScriptFault.{ScriptFault}
use Rattle.wast_script.specs.declared.fault.ScriptFault.TheVariants as fault
use Rattle.wast_script.specs.Commands.{Command}
use Rattle.wast_script.specs.Forms.{command_of}
use Rattle.wast_script.specs.Lists.{all_given, gives_nothing}
use Rattle.wast_script.specs.Values.{array_in}

abbrev pub most_script_bytes : ℕ
most_script_bytes = 1048576

abbrev pub most_commands : ℕ
most_commands = 10000

-- the JSON value of a text, as serde_json reads it: of members with one name it keeps the last
abbrev pub IsJson : List ℕ → Data → Type 0
IsJson text d = IsUtf8 text × (read text ≡ Some d)

-- at most 10,000 objects
abbrev pub are_objects : List Data → Bool
are_objects ds = nat_le (length ds) most_commands && list_all (λ d. is_some (as_object d)) ds

-- the objects in the array `commands`; none where there is no such array
abbrev pub objects_in : Data → Option (List Data)
objects_in d = option_and_then (λ ds. if are_objects ds then Some ds else None) (array_in (codes "commands") d)

-- an object that is not of the form of a command
abbrev pub is_formless : Data → Bool
is_formless = gives_nothing command_of

-- among objects, the first that is not of its form is the reason; want of memory comes with any
abbrev pub IsFirstFault : List Data → ScriptFault → Type 0
IsFirstFault ds fault.TooLong = ⊥
IsFirstFault ds fault.NotJson = ⊥
IsFirstFault ds fault.NoCommands = ⊥
IsFirstFault ds (fault.Command number) = position_from is_formless 1 ds ≡ Some number
IsFirstFault ds fault.Memory = ⊤

-- the commands that a JSON value stands for
pub record HasCommands (d : Data) (commands : List Command) : Type 0 where
  pub objects : List Data
  pub objects_are : objects_in d ≡ Some objects
  pub commands_are : all_given command_of objects ≡ Some commands

-- the command with this number, from 1, is the first that is not of its form
pub record HasFault (d : Data) (number : ℕ) : Type 0 where
  pub objects : List Data
  pub objects_are : objects_in d ≡ Some objects
  pub number_is : position_from is_formless 1 objects ≡ Some number

-- a JSON value is no script, for want of such an array or by one of its commands; want of memory comes with any
abbrev pub IsFaultOf : Data → ScriptFault → Type 0
IsFaultOf d fault.TooLong = ⊥
IsFaultOf d fault.NotJson = ⊥
IsFaultOf d fault.NoCommands = objects_in d ≡ None
IsFaultOf d (fault.Command number) = HasFault d number
IsFaultOf d fault.Memory = ⊤

-- the commands that a text says
pub record IsScript (text : List ℕ) (commands : List Command) : Type 0 where
  pub short : length text ≤ most_script_bytes
  pub json : Data
  pub is_json : IsJson text json
  pub has_commands : HasCommands json commands

-- a text of at most so many bytes is a JSON value with a fault
pub record FaultOfValue (text : List ℕ) (why : ScriptFault) : Type 0 where
  pub short : length text ≤ most_script_bytes
  pub json : Data
  pub is_json : IsJson text json
  pub fault_is : IsFaultOf json why

-- why a text says no script: the first of these that holds
abbrev pub IsFault : List ℕ → ScriptFault → Type 0
IsFault text fault.TooLong = most_script_bytes < length text
IsFault text fault.NotJson = (length text ≤ most_script_bytes) × ((d : Data) → IsJson text d → ⊥)
IsFault text fault.NoCommands = FaultOfValue text fault.NoCommands
IsFault text (fault.Command number) = FaultOfValue text (fault.Command number)
IsFault text fault.Memory = ⊤
