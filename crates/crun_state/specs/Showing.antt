-- The lines of the state, object by object: those of each unit in the order of the names that it declares, each object by the number
-- of its name.
use Rattle.std.specs.Prelude.{ℕ, List, [], ◌++◌, flat_map, get_or, length, map, slice_get, Option, Some, None}
use Rattle.std.specs.List.{range_with_len}
use Rattle.w2c_base.specs.Lookup.{at_index}
use Rattle.w2c_base.specs.Run.{Host, HostFunction}
use Rattle.c_tree.specs.Tree as tree
use Rattle.c_meaning.specs.State.{Name}
use Rattle.c_objects.specs.declared.held.Held.{Held}
use Rattle.c_objects.specs.declared.held.Held.TheVariants as held
use Rattle.c_objects.specs.declared.memory.MemoryCell.{MemoryCell}
use Rattle.c_objects.specs.declared.store.UnitObjects.{UnitObjects}
use Rattle.c_objects.specs.declared.table.Entry.{Entry}
use Rattle.c_objects.specs.declared.table.TableCell.{TableCell}
use Rattle.c_objects.specs.Objects.{memory_of, table_of}
use Rattle.c_objects.specs.Views.{Naming, func_of}
use Rattle.crun_startup.specs.Names.{names_in, naming_of}
use Rattle.crun_startup.specs.declared.names.ObjectKind.TheVariants as kind
use Rattle.crun_lines.specs.declared.names.Numbered.{Numbered}
use Rattle.crun_lines.specs.NameOrder.{in_order, numbered_from}
use Rattle.crun_lines.specs.StateLines.{
  element_line,
  function_text,
  length_line,
  memory_lines,
  pages_line,
  row_lines,
  table_lines,
  variable_line,
}
use Rattle.crun_lines.specs.Views.{entry_of}

-- ---- objects of one kind

-- the lines of what stands under a name; of nothing there are none
abbrev pub lines_if_there : {A : Type 0} → (Name × A → List ℕ) → Name → Option A → List ℕ
lines_if_there lines name None = []
lines_if_there lines name (Some a) = lines (name, a)

-- the object with the number of a name
abbrev pub lines_at : {A : Type 0} → (Name × A → List ℕ) → List A → Name × ℕ → List ℕ
lines_at lines objects e = lines_if_there lines e.0 (slice_get objects e.1)

-- those of these names, in the order of the names
abbrev pub lines_in_order : {A : Type 0} → (Name × A → List ℕ) → List Name → List A → List ℕ
lines_in_order lines names objects = flat_map (lines_at lines objects) (in_order (numbered_from 0 names))

-- the name at a place among names in order, with its number
abbrev pub entry_at : List Numbered → ℕ → Name × ℕ
entry_at names k = get_or (map entry_of names) k ([], 0)

-- ---- one object

-- a variable by what it holds: one that holds a pointer has no line
abbrev pub held_lines : ℕ → Name × Held → List ℕ
held_lines u (name, held.Number value) = variable_line u name value
held_lines u (name, held.Pointer to) = []
held_lines u (name, held.FuncPointer to) = []

abbrev pub cell_lines : ℕ → Name × MemoryCell → List ℕ
cell_lines u (name, cell) = memory_lines u (name, memory_of cell)

-- a memory of these bytes
abbrev pub pages_and_rows : ℕ → Name → List ℕ → List ℕ
pages_and_rows u name bytes = pages_line u name bytes ++ row_lines u name bytes

abbrev pub table_cell_lines : List Host → Naming → ℕ → Name × TableCell → List ℕ
table_cell_lines hosts names u (name, table) = table_lines hosts u (name, table_of names table)

-- an element by its place; an empty one has no line
abbrev pub entry_lines : List Host → Naming → ℕ → Name → ℕ → Option Entry → List ℕ
entry_lines hosts names u name at None = []
entry_lines hosts names u name at (Some e) = element_line u name at (function_text hosts (func_of names e.func)) e.signature

abbrev pub lines_at_place : List Host → Naming → ℕ → Name → List (Option Entry) → ℕ → List ℕ
lines_at_place hosts names u name elements at = entry_lines hosts names u name at (at_index elements at)

-- a table of these elements
abbrev pub length_and_elements : List Host → Naming → ℕ → Name → List (Option Entry) → List ℕ
length_and_elements hosts names u name elements = length_line u name (length elements)
    ++ flat_map (lines_at_place hosts names u name elements) (range_with_len 0 (length elements))

-- ---- a unit

-- its variables, then its memories, then its tables, by the names that these items declare
abbrev pub lines_of_objects : List Host → List (List tree.Item) → ℕ → List tree.Item → UnitObjects → List ℕ
lines_of_objects hosts units u items own =
    lines_in_order (held_lines u) (names_in kind.Variable items) own.vars.items
    ++ lines_in_order (cell_lines u) (names_in kind.Memory items) own.memories.items
    ++ lines_in_order (table_cell_lines hosts (naming_of units) u) (names_in kind.Table items) own.tables.items

-- the unit with a number
abbrev pub items_at : List (List tree.Item) → ℕ → List tree.Item
items_at units u = elim (slice_get units u) [ None ↦ [] | Some items ↦ items ]

-- by its objects, where it has some
abbrev pub lines_if_made : List Host → List (List tree.Item) → ℕ → Option UnitObjects → List ℕ
lines_if_made hosts units u None = []
lines_if_made hosts units u (Some own) = lines_of_objects hosts units u (items_at units u) own

abbrev pub lines_of_unit : List Host → List (List tree.Item) → List UnitObjects → ℕ → List ℕ
lines_of_unit hosts units objects u = lines_if_made hosts units u (slice_get objects u)

-- ---- names of functions

-- a number past the end stands for the name of no letters
abbrev pub name_among : List HostFunction → ℕ → List ℕ
name_among functions f = elim (slice_get functions f) [ None ↦ [] | Some function ↦ function.name ]
