-- What units have to keep to become one: hosts have no part in it.
use Rattle.c_merge.proofs.Common.{◌≡◌, ℕ, ◌<◌, true, false, List, is_some, slice_get, Some, KeepsRules, func_type_of}
use Rattle.c_tree.specs.Tree as tree

-- a unit declares a function of external linkage, or defines it
pub record Shows (units : List (List tree.Item)) (u : ℕ) (f : tree.Func) : Type 0 where
  pub items : List tree.Item
  pub there : slice_get units u ≡ Some items
  pub item : ℕ
  pub at : slice_get items item ≡ Some (tree.Function f)
  pub shown : f.is_static ≡ false

-- each unit keeps the rules, and functions of external linkage are defined by one unit at most and have one type for each name
pub record FitTogether (units : List (List tree.Item)) : Type 0 where
  pub kept : (u : ℕ) (items : List tree.Item) → slice_get units u ≡ Some items → KeepsRules items
  pub once : (u v : ℕ) → u < v → (f g : tree.Func) → Shows units u f → Shows units v g → is_some f.body ≡ true → is_some g.body ≡ true
      → f.name ≡ g.name
      → ⊥
  pub typed : (u v : ℕ) (f g : tree.Func) → Shows units u f → Shows units v g → f.name ≡ g.name → func_type_of f ≡ func_type_of g
