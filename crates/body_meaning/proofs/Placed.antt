-- The labels of a function's code: where code is placed in a body, its parts are.
use Rattle.body_meaning.proofs.Common.{◌≡◌, ℕ, Bool, true, false, List, ◌++◌, Some, after_label, label_if, label_name, IsPlaced}
use Rattle.c_tree.specs.Tree as tree

-- a label that is named is found
pub label_found : (body : List tree.Stmt) (named : Bool) (l : ℕ) (code rest : List tree.Stmt)
    → IsPlaced body (label_if named l ++ code) rest → named ≡ true → after_label (label_name l) body ≡ Some (code ++ rest)
label_found body true l code rest placed e = placed.0
label_found body false l code rest placed e = absurd cc

pub last_label_found : (body : List tree.Stmt) (named : Bool) (l : ℕ) (rest : List tree.Stmt) → IsPlaced body (label_if named l) rest
    → named ≡ true → after_label (label_name l) body ≡ Some rest
last_label_found body true l rest placed e = placed.0
last_label_found body false l rest placed e = absurd cc
