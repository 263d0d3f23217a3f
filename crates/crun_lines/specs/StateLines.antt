-- The lines of the objects of units: variables that hold numbers, memories with their rows of bytes, and
-- tables with their elements.
use Rattle.std.specs.Prelude.{ℕ, ◌*◌, ◌/◌, ◌==◌, if◌then◌else◌, List, [], ◌++◌, length, flat_map, codes, Option, Some, None}
use Rattle.std.specs.Fmt.{decimal}
use Rattle.std.specs.List.{list_all, range_with_len}
use Rattle.hex.specs.Hex.{encode_lower}
use Rattle.w2c_base.specs.declared.value.Value.{Value}
use Rattle.w2c_base.specs.declared.value.Value.TheVariants.{I32, I64}
use Rattle.w2c_base.specs.LittleEndian.{bytes_at}
use Rattle.w2c_base.specs.Lookup.{numbered}
use Rattle.w2c_base.specs.Run.{Host}
use Rattle.c_meaning.specs.State.{Name, CValue, Number, Pointer, FuncPointer, FuncAddress, UnitFunc, HostFunc, Memory, Element, Table}
use Rattle.c_meaning.specs.State.{Objects}
use Rattle.crun_lines.specs.Words.{name_text}
use Rattle.crun_lines.specs.HostLines.{function_name}
use Rattle.crun_lines.specs.NameOrder.{in_order}

-- an object by its unit's number and its name
abbrev pub object_text : ℕ → Name → List ℕ
object_text u name = codes "state " ++ decimal u ++ codes " " ++ name ++ codes " "

-- the number in a variable, by the variable's type
abbrev pub held_text : Value → List ℕ
held_text (I32 n) = codes "u32:" ++ decimal n
held_text (I64 n) = codes "u64:" ++ decimal n

abbrev pub variable_line : ℕ → Name → Value → List ℕ
variable_line u name value = object_text u name ++ held_text value ++ codes "\n"

-- a variable that holds a pointer has no line
abbrev pub variable_lines : ℕ → Name × CValue → List ℕ
variable_lines u (name, Number value) = variable_line u name value
variable_lines u (name, Pointer to) = []
variable_lines u (name, FuncPointer to) = []

-- a page has 65,536 bytes
abbrev pub pages_line : ℕ → Name → List ℕ → List ℕ
pages_line u name bytes = object_text u name ++ codes "pages " ++ decimal (length bytes / 65536) ++ codes "\n"

-- the row of 16 bytes with this number, by its first place; a row of bytes 0 has no line
abbrev pub row_line : ℕ → Name → List ℕ → ℕ → List ℕ
row_line u name bytes row =
    let row_bytes : List ℕ = bytes_at bytes (16 * row) 16 in
    if list_all (λ b. b == 0) row_bytes then []
    else object_text u name ++ codes "at " ++ decimal (16 * row) ++ codes " " ++ encode_lower row_bytes ++ codes "\n"

abbrev pub row_lines : ℕ → Name → List ℕ → List ℕ
row_lines u name bytes = flat_map (row_line u name bytes) (range_with_len 0 (length bytes / 16))

abbrev pub memory_lines : ℕ → Name × Memory → List ℕ
memory_lines u (name, memory) = pages_line u name memory.bytes ++ row_lines u name memory.bytes

abbrev pub length_line : ℕ → Name → ℕ → List ℕ
length_line u name count = object_text u name ++ codes "length " ++ decimal count ++ codes "\n"

-- a function that an element names: a unit's by its name in C, a host's by its escaped name
abbrev pub function_text : List Host → FuncAddress → List ℕ
function_text hosts (UnitFunc unit name) = codes " unit " ++ decimal unit ++ codes " " ++ name
function_text hosts (HostFunc host function) =
    codes " host " ++ decimal host ++ codes " " ++ name_text (function_name hosts host function)

abbrev pub element_line : ℕ → Name → ℕ → (function : List ℕ) → (signature : ℕ) → List ℕ
element_line u name at function signature =
    object_text u name ++ codes "at " ++ decimal at ++ function ++ codes " " ++ decimal signature ++ codes "\n"

-- an element by its place; an empty one has no line
abbrev pub element_lines : List Host → ℕ → Name → ℕ × Option Element → List ℕ
element_lines hosts u name (at, None) = []
element_lines hosts u name (at, Some e) = element_line u name at (function_text hosts e.func) e.signature

abbrev pub table_lines : List Host → ℕ → Name × Table → List ℕ
table_lines hosts u (name, table) =
    length_line u name (length table.elements) ++ flat_map (element_lines hosts u name) (numbered table.elements)

-- a unit's variables, then its memories, then its tables, each in the order of the names
abbrev pub unit_lines : List Host → ℕ × Objects → List ℕ
unit_lines hosts (u, objects) =
    flat_map (variable_lines u) (in_order objects.vars)
    ++ flat_map (memory_lines u) (in_order objects.memories)
    ++ flat_map (table_lines hosts u) (in_order objects.tables)

abbrev pub state_lines : List Host → List Objects → List ℕ
state_lines hosts units = flat_map (unit_lines hosts) (numbered units)
