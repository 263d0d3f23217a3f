-- The functions that a unit itself defines, those that other units do not see too.
use Rattle.std.specs.Prelude.{◌≡◌, ℕ, List, length, is_some, slice_get, Some}
use Rattle.w2c_base.specs.Lookup.{named}
use Rattle.c_tree.specs.Tree as tree
use Rattle.c_tree.specs.Scope.{Name}
use Rattle.c_meaning.specs.Linking.{defined}

-- a table knows the names of the functions that a unit defines
abbrev pub Knows : {A : Type 0} → List (Name × A) → List tree.Item → Type 0
Knows table items = (q : Name) → is_some (named q table) ≡ is_some (defined items q)

-- each unit has its table
pub record HaveOwn {A : Type 0} (tables : List (List (Name × A))) (units : List (List tree.Item)) : Type 0 where
  pub many : length tables ≡ length units
  pub each : (u : ℕ) (table : List (Name × A)) (items : List tree.Item) → slice_get tables u ≡ Some table
      → slice_get units u ≡ Some items → Knows table items
