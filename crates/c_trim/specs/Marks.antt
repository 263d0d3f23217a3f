-- Tools of the code, which no promise names: the functions that were reached so far, by the numbers of their items.
use Rattle.std.specs.Prelude.{◌≡◌, ◌⊎◌, ℕ, suc, ◌<◌, ◌==◌, ◌&&◌, Bool, true, false, if◌then◌else◌, List, [], ◌∷◌, ◌++◌, length, take}
use Rattle.std.specs.Prelude.{slice_get, slice_set, slice_index_or, Option, Some, None}
use Rattle.std.specs.List.{list_any, position_from}
use Rattle.w2c_base.specs.Lookup.{named}
use Rattle.c_tree.specs.Tree as tree
use Rattle.c_tree.specs.Scope.{Name, is_among, name_of}
use Rattle.c_tree.specs.Rules.{defines, has_body}
use Rattle.c_trim.specs.Trim.{IsNeeded, is_external, item_functions}
use Rattle.c_trim.specs.declared.reach.Marks.{Marks}

-- the first item that defines a function
abbrev pub definer : List tree.Item → Name → Option ℕ
definer unit x = position_from (defines x) 0 unit

-- a table knows the items that define functions
abbrev pub KnowsDefiners : List (Name × ℕ) → List tree.Item → Type 0
KnowsDefiners table unit = (x : Name) → named x table ≡ definer unit x

-- whether each item was reached, and the numbers of those that were, in their order
abbrev pub Reached : Type 0
Reached = List Bool × List ℕ

abbrev pub reached_by : Marks → Reached
reached_by marks = (marks.flags.items, marks.order.items)

-- the item with this number is reached
abbrev pub with_item : Option ℕ → Reached → Reached
with_item None r = r
with_item (Some j) r = if slice_index_or r.0 j true then r else (slice_set r.0 j true, r.1 ++ j ∷ [])

-- the functions of these names are reached
abbrev pub with_names : List (Name × ℕ) → List Name → Reached → Reached
with_names table [] r = r
with_names table (x ∷ names) r = with_names table names (with_item (named x table) r)

-- an external function's definition
abbrev pub begins : tree.Item → Bool
begins item = is_external item && has_body item

-- in the table, and reached
abbrev pub is_reached : List (Name × ℕ) → List Bool → Name → Bool
is_reached table flags x = elim (named x table) [ None ↦ false | Some j ↦ slice_index_or flags j false ]

-- ---- what the marks say of a unit

abbrev pub is_in : ℕ → List ℕ → Bool
is_in j numbers = list_any (λ m. m == j) numbers

-- a reason to be reached
abbrev pub IsWanted : List tree.Item → tree.Item → Type 0
IsWanted unit item = (is_external item ≡ true) ⊎ IsNeeded unit (name_of item)

-- the flags and the order say the same, and what was reached had a reason
pub record AreReached (unit : List tree.Item) (r : Reached) : Type 0 where
  pub long : length r.0 ≡ length unit
  pub ordered : (j : ℕ) → slice_index_or r.0 j false ≡ true → is_in j r.1 ≡ true
  pub flagged : (j : ℕ) → is_in j r.1 ≡ true → slice_index_or r.0 j false ≡ true
  pub wanted : (j : ℕ) (item : tree.Item) → is_in j r.1 ≡ true → slice_get unit j ≡ Some item → IsWanted unit item

-- the definitions of external functions in front of an item were reached
abbrev pub BegunTo : List tree.Item → ℕ → Reached → Type 0
BegunTo unit k r =
    (j : ℕ) (item : tree.Item) → j < k → slice_get unit j ≡ Some item → begins item ≡ true → slice_index_or r.0 j false ≡ true

-- the functions that the body of an item names were reached
abbrev pub IsFollowed : List tree.Item → List Bool → tree.Item → Type 0
IsFollowed unit flags item =
    (x : Name) → is_among x (item_functions item) ≡ true → (m : ℕ) → definer unit x ≡ Some m → slice_index_or flags m false ≡ true

-- so are the first ones in the order
abbrev pub FollowedTo : List tree.Item → ℕ → Reached → Type 0
FollowedTo unit k r = (j : ℕ) (item : tree.Item) → is_in j (take k r.1) ≡ true → slice_get unit j ≡ Some item → IsFollowed unit r.0 item

-- all that is needed was reached
pub record AreAllReached (unit : List tree.Item) (r : Reached) : Type 0 where
  pub reached : AreReached unit r
  pub begun : BegunTo unit (length unit) r
  pub followed : FollowedTo unit (length r.1) r

-- the functions that the body of the item with this number names, where there is one
abbrev pub functions_at : List tree.Item → Option ℕ → List Name
functions_at unit None = []
functions_at unit (Some i) = elim (slice_get unit i) [ None ↦ [] | Some item ↦ item_functions item ]

-- how many items were not reached
abbrev pub unreached : List Bool → ℕ
unreached [] = 0
unreached (true ∷ flags) = unreached flags
unreached (false ∷ flags) = suc (unreached flags)
