-- The variables and the functions that items declare, by their names.
use Rattle.std.specs.Prelude.{List, filter_map}
use Rattle.c_tree.specs.Scope.{Name, function_of, variable_of}
use Rattle.c_tree.specs.Tree as tree
use Rattle.c_tree.specs.declared.tree.CType.{CType}

-- variables with their types
abbrev pub Variables : Type 0
Variables = List (Name × CType)

-- those that some items declare
abbrev pub vars_in : List tree.Item → Variables
vars_in declared = filter_map variable_of declared

-- and the functions
abbrev pub funcs_in : List tree.Item → List (Name × tree.FuncType)
funcs_in declared = filter_map function_of declared
