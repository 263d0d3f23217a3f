-- Lists of statements in which a label may be left out again: a gap stands in its place, and is not written.
use Rattle.std.specs.Prelude.{Bool, true, false, List, [], filter}
use Rattle.c_tree.specs.Tree as tree

-- what stands in place of a label that was left out: one without a name
abbrev pub gap : tree.Stmt
gap = tree.Label []

abbrev pub is_written : tree.Stmt → Bool
is_written (tree.Label []) = false
is_written s = true

abbrev pub written : List tree.Stmt → List tree.Stmt
written stmts = filter is_written stmts
