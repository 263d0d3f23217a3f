-- The objects of a unit before the first statement (C11, 5.1.2, 6.7.9 initialization): what variables hold,
-- and memories and tables that are not made.
use Rattle.std.specs.Prelude.{◌≡◌, Bool, false, if◌then◌else◌, List, map, filter_map, Option, Some, None}
use Rattle.c_tree.specs.declared.tree.CType.{CType}
use Rattle.c_tree.specs.declared.tree.CType.TheVariants as type
use Rattle.c_tree.specs.declared.tree.Num.{Num}
use Rattle.c_tree.specs.Tree as tree
use Rattle.c_tree.specs.Runtime.{same_type}
use Rattle.c_meaning.specs.State.{CValue, Memory, Table}
use Rattle.c_meaning.specs.Machine.{initial_of, no_memory, no_table, zero_of}
use Rattle.c_objects.specs.declared.store.UnitObjects.{UnitObjects}
use Rattle.c_objects.specs.Objects.{memory_of, table_of}
use Rattle.c_objects.specs.Views.{Naming, value_of}

-- what the variable that an item declares holds, with its initialiser or without one
abbrev pub first_of : CType → Option Num → Option CValue
first_of ty None = zero_of ty
first_of ty (Some number) = initial_of ty number

abbrev pub var_value : tree.Item → Option CValue
var_value (tree.Array name count bytes) = None
var_value (tree.Var ty name number) = first_of ty number
var_value (tree.Function f) = None

-- an item declares a variable of a type
abbrev pub is_of : CType → tree.Item → Bool
is_of t (tree.Array name count bytes) = false
is_of t (tree.Var ty name number) = same_type ty t
is_of t (tree.Function f) = false

abbrev pub memory_value : tree.Item → Option Memory
memory_value item = if is_of type.Mem item then Some no_memory else None

abbrev pub table_value : tree.Item → Option Table
table_value item = if is_of type.Tab item then Some no_table else None

-- the objects of a unit, each kind in the order of its declarations
pub record AreFirst (items : List tree.Item) (o : UnitObjects) : Type 0 where
  pub vars : (names : Naming) → map (value_of names) o.vars.items ≡ filter_map var_value items
  pub memories : map memory_of o.memories.items ≡ filter_map memory_value items
  pub tables : (names : Naming) → map (table_of names) o.tables.items ≡ filter_map table_value items
