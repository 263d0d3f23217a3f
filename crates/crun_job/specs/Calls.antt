-- The calls that the lines of a calls file name, over linked units, or the first line that names none.
use Rattle.std.specs.Prelude.{◌≡◌, ℕ, true, List, [], map}
use Rattle.w2c_base.specs.Values.{number_of}
use Rattle.c_tree.specs.Tree as tree
use Rattle.c_meaning.specs.Linking.{fits, Program, SymbolCall}
use Rattle.crun_words.specs.CallLine.{SaysCall}
use Rattle.crun_words.specs.CallsFile.{NumberedLine}
use Rattle.crun_job.specs.Each.{AreEach, IsFirst}

-- units as a program without hosts: which hosts it has says nothing of the calls that fit (`hosts_say_nothing`)
abbrev pub program_of : List (List tree.Item) → Program
program_of units = record { units = units; hosts = [] }

-- A line names a call: it says the symbol and the numbers of the arguments, a unit defines the symbol, the result is void,
-- u32 or u64, and the arguments are one for each parameter, numbers of its type, which is u32 or u64.
pub record Names (units : List (List tree.Item)) (line : List ℕ) (call : SymbolCall) : Type 0 where
  pub said : SaysCall line (record { symbol = call.symbol; numbers = map number_of call.args })
  pub fit : fits (program_of units) call ≡ true

-- the lines, in order, name these calls
abbrev pub NamesFrom : List (List tree.Item) → NumberedLine → SymbolCall → Type 0
NamesFrom units line call = Names units line.text call

abbrev pub AreCalls : List (List tree.Item) → List NumberedLine → List SymbolCall → Type 0
AreCalls units lines calls = AreEach (NamesFrom units) lines calls

-- a line that names no call, with its number in the file
abbrev pub IsRefusedLine : List (List tree.Item) → NumberedLine → ℕ → Type 0
IsRefusedLine units line number = (number ≡ line.number) × ((call : SymbolCall) → Names units line.text call → ⊥)

-- the first line that names no call, by its number in the file: those in front of it name calls
abbrev pub IsFirstRefusedLine : List (List tree.Item) → List NumberedLine → ℕ → Type 0
IsFirstRefusedLine units lines number = (k : ℕ) × IsFirst (NamesFrom units) (IsRefusedLine units) lines k number
