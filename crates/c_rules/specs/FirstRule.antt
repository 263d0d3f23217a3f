-- The first of some rules that does not hold at a place, and the first broken rule of a list of
-- statements, of a body and of the items from one on.
use Rattle.std.specs.Prelude.{ℕ, Bool, if◌then◌else◌, List, [], ◌∷◌, drop, flat_map, slice_get, Option, Some, None}
use Rattle.w2c_base.specs.Lookup.{numbered}
use Rattle.c_tree.specs.Tree as tree
use Rattle.c_tree.specs.Scope.{Scope}
use Rattle.c_tree.specs.Rules.{Place, StmtPlace, item_rules, stmt_rules}
use Rattle.c_tree.specs.FirstBroken.{BrokenAt, broken_in_stmt, broken_in_body, broken_in_item}

abbrev pub first_rule : {P : Type 0} → List (ℕ × (P → Bool)) → P → Option ℕ
first_rule [] p = None
first_rule (rule ∷ rules) p = if rule.1 p then first_rule rules p else Some rule.0

unfoldable pub stmt_breaks : StmtPlace → Option ℕ
stmt_breaks p = first_rule stmt_rules p

unfoldable pub item_breaks : Place → Option ℕ
item_breaks p = first_rule item_rules p

-- from a statement on, counted from 0
unfoldable pub first_in_stmts : Scope → ℕ → ℕ → Option BrokenAt
first_in_stmts s item i = slice_get (flat_map (broken_in_stmt s item) (drop i (numbered s.body.stmts))) 0

unfoldable pub first_in_body : List tree.Item → ℕ → tree.Item → Option BrokenAt
first_in_body unit i item = slice_get (broken_in_body unit i item) 0

-- from an item on
unfoldable pub first_in_items : List tree.Item → ℕ → Option BrokenAt
first_in_items unit i = slice_get (flat_map (broken_in_item unit) (drop i (numbered unit))) 0
