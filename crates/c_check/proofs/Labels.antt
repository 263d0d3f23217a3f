-- A test of a label by its name.
use Rattle.std.proofs.Common.{◌≡◌, true, refl}
use Rattle.c_tree.specs.Tree as tree
use Rattle.c_tree.specs.Rules.{StmtPlace, if_any, is_own_name, label_is_free, label_of}

free_of : (s : tree.Stmt) → elim s [ tree.Label name ↦ is_own_name name | _ ↦ true ] ≡ if_any (label_of s) is_own_name
free_of (tree.Label name) = refl
free_of _ = refl

pub free_by_label : (p : StmtPlace) → label_is_free p ≡ if_any (label_of p.stmt) is_own_name
free_by_label p = free_of p.stmt
