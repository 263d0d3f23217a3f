-- The parts of a function's body.
use Rattle.std.specs.Prelude.{List, [], None, Some}
use Rattle.c_tree.specs.Tree as tree

abbrev pub locals_of : tree.Func → List tree.Local
locals_of f = elim f.body [ None ↦ [] | Some b ↦ b.locals ]

abbrev pub stmts_of : tree.Func → List tree.Stmt
stmts_of f = elim f.body [ None ↦ [] | Some b ↦ b.stmts ]
