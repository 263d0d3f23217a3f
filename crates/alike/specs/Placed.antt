-- Where statements stand in a body: each of their labels is found there, and behind it what follows.
use Rattle.std.specs.Prelude.{◌≡◌, List, [], ◌∷◌, ◌++◌, Some}
use Rattle.std.specs.Prelude.{⊤}
use Rattle.c_tree.specs.Tree as tree
use Rattle.c_meaning.specs.Step.{after_label}

-- each label of these statements is found in the body, with what stands behind it
abbrev pub IsPlaced : List tree.Stmt → List tree.Stmt → List tree.Stmt → Type 0
IsPlaced body [] rest = ⊤
IsPlaced body (tree.Label name ∷ stmts) rest = (after_label name body ≡ Some (stmts ++ rest)) × IsPlaced body stmts rest
IsPlaced body (stmt ∷ stmts) rest = IsPlaced body stmts rest
