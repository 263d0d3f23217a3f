-- The statement that sets the pointer to an imported object.
use Rattle.std.specs.Prelude.{[], Option, Some, None}
use Rattle.c_tree.specs.Tree as tree
use Rattle.c_tree.specs.Scope.{Name}
use Rattle.c_tree.specs.DefinedNames.{pointer_name}

abbrev pub pointer_set : Option Name → Name → tree.Stmt
pointer_set None object = tree.Null
pointer_set (Some symbol) object = tree.Call (Some (pointer_name object)) (tree.Called symbol) []
