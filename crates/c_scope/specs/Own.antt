-- The parameters and local variables of a function, as pairs of a name and a type.
use Rattle.std.specs.Prelude.{List, map, filter_map, Option, option_map}
use Rattle.c_tree.specs.declared.tree.CType.{CType}
use Rattle.c_tree.specs.Tree as tree
use Rattle.c_tree.specs.Scope.{Name}
use Rattle.c_scope.specs.declared.own.Variable.{Variable}

abbrev pub variable_pair : Variable → Name × CType
variable_pair v = (v.name.now, v.of)

abbrev named_param : tree.Param → Option (Name × CType)
named_param p = option_map (λ name. (name, p.0)) p.1

abbrev pub params_of : List tree.Param → List (Name × CType)
params_of params = filter_map named_param params

abbrev pub locals_of : List tree.Local → List (Name × CType)
locals_of locals = map (λ l. (l.1, l.0)) locals
