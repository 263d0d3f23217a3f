-- The names that the objects and functions of linked units have by their numbers (C11, 6.2.2 linkages of
-- identifiers, 6.2.4 storage durations).
use Rattle.std.specs.Prelude.{Bool, if◌then◌else◌, is_some, List, [], map, filter_map, Option, Some, None}
use Rattle.c_tree.specs.declared.tree.CType.TheVariants as type
use Rattle.c_tree.specs.Tree as tree
use Rattle.c_tree.specs.Scope.{Name, name_of}
use Rattle.c_machine.specs.Names.{defined_name}
use Rattle.c_objects.specs.Views.{Naming, UnitNames}
use Rattle.crun_startup.specs.declared.names.ObjectKind.{ObjectKind}
use Rattle.crun_startup.specs.declared.names.ObjectKind.TheVariants as kind
use Rattle.crun_startup.specs.Objects.{is_of, var_value}

-- an item declares an object of a kind
abbrev pub has_object : ObjectKind → tree.Item → Bool
has_object kind.Variable item = is_some (var_value item)
has_object kind.Memory item = is_of type.Mem item
has_object kind.Table item = is_of type.Tab item

abbrev pub object_name : ObjectKind → tree.Item → Option Name
object_name k item = if has_object k item then Some (name_of item) else None

-- objects have their numbers in the order of their declarations, by kind
abbrev pub names_in : ObjectKind → List tree.Item → List Name
names_in k items = filter_map (object_name k) items

-- the name of an array
abbrev pub array_name : tree.Item → Option Name
array_name (tree.Array name count bytes) = Some name
array_name (tree.Var ty name number) = None
array_name (tree.Function f) = None

-- the name of the function that an item defines; another has the name of no letters
abbrev pub function_name : tree.Item → Name
function_name item = elim (defined_name item) [ None ↦ [] | Some name ↦ name ]

abbrev pub unit_names : List tree.Item → UnitNames
unit_names items = record {
  vars = names_in kind.Variable items;
  memories = names_in kind.Memory items;
  tables = names_in kind.Table items;
  items = map function_name items;
}

-- the names of each unit
abbrev pub naming_of : List (List tree.Item) → Naming
naming_of units = map unit_names units
