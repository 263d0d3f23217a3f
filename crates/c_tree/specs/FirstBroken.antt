-- Where a unit breaks a rule, and which broken rule is the first: by the item, in it by the
-- statement, and there by the rule.
use Rattle.std.specs.Prelude.{◌≡◌, ◌⊎◌, ℕ, ◌+◌, ◌<◌, ◌≤◌, not, List, [], ◌++◌, map, filter, flat_map, take, slice_get, Option, Some, None}
use Rattle.std.specs.Prelude.{Bool}
use Rattle.std.specs.List.{Contains}
use Rattle.w2c_base.specs.Lookup.{numbered}
use Rattle.c_tree.specs.Tree as tree
use Rattle.c_tree.specs.Scope.{Scope}
use Rattle.c_tree.specs.Rules.{item_rules, stmt_rules}

-- a rule by its number, broken at an item from 0 and there at a statement from 1, or at 0: by the
-- item itself, a parameter or a local variable
pub record BrokenAt : Type 0 where
  pub item : ℕ
  pub statement : ℕ
  pub rule : ℕ

-- the numbers of the rules that do not hold at a place
abbrev pub broken_of : {P : Type 0} → List (ℕ × (P → Bool)) → P → List ℕ
broken_of rules p = map (λ r. r.0) (filter (λ r. not (r.1 p)) rules)

abbrev pub broken_in_stmt : Scope → ℕ → ℕ × tree.Stmt → List BrokenAt
broken_in_stmt scope item entry =
    map (λ rule. record { item = item; statement = entry.0 + 1; rule = rule })
    (broken_of stmt_rules (record { scope = scope; number = entry.0 + 1; stmt = entry.1 }))

abbrev pub broken_in_body : List tree.Item → ℕ → tree.Item → List BrokenAt
broken_in_body unit item (tree.Function f) = elim f.body [
  | None ↦ []
  | Some b ↦ flat_map (broken_in_stmt (record { declared = take (item + 1) unit; func = f; body = b }) item) (numbered b.stmts)
]
broken_in_body unit item _ = []

abbrev pub broken_in_item : List tree.Item → ℕ × tree.Item → List BrokenAt
broken_in_item unit entry =
    map (λ rule. record { item = entry.0; statement = 0; rule = rule })
    (broken_of item_rules (record { unit = unit; number = entry.0; item = entry.1 }))
    ++ broken_in_body unit entry.0 entry.1

-- every broken rule of a unit, in order
abbrev pub broken_rules : List tree.Item → List BrokenAt
broken_rules unit = flat_map (broken_in_item unit) (numbered unit)

-- The unit breaks the rule at the statement of the item.
abbrev pub BrokenRule : List tree.Item → BrokenAt → Type 0
BrokenRule unit at = Contains (broken_rules unit) at

-- the first broken rule, where one is broken
abbrev pub first_broken : List tree.Item → Option BrokenAt
first_broken unit = slice_get (broken_rules unit) 0

-- The unit keeps every rule.
abbrev pub KeepsRules : List tree.Item → Type 0
KeepsRules unit = first_broken unit ≡ None

-- the one is not behind the other: by item, then statement, then rule
abbrev pub IsNotBehind : BrokenAt → BrokenAt → Type 0
IsNotBehind a b =
    (a.item < b.item)
    ⊎ ((a.item ≡ b.item) × (a.statement < b.statement))
    ⊎ ((a.item ≡ b.item) × (a.statement ≡ b.statement) × (a.rule ≤ b.rule))

-- It is broken, and none that is broken comes before it.
pub record IsFirstBroken (unit : List tree.Item) (at : BrokenAt) : Type 0 where
  pub broken : BrokenRule unit at
  pub least : (other : BrokenAt) → BrokenRule unit other → IsNotBehind at other
