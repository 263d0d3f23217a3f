-- The first broken rule, from one statement or item to the next.
use Rattle.c_rules.proofs.Common.{◌≡◌, ℕ, ◌+◌, ◌<◌, ◌≤◌, Bool, true, false, List, [], map, length, get_or, take, drop, if◌then◌else◌}
use Rattle.c_rules.proofs.Common.{slice_get, Some, None, Option, option_map, flat_map, sym, refl, ap, ◌∙◌, numbered, BrokenAt}
use Rattle.c_rules.proofs.Common.{broken_in_body, broken_in_item, broken_in_stmt, broken_of, first_broken, Place, is_declared_once}
use Rattle.c_rules.proofs.Common.{item_rules, stmt_rules, Scope}
use Rattle.c_tree.specs.declared.tree.Stmt.{Stmt}
use Rattle.c_tree.specs.declared.tree.Item.{Item}
use Rattle.c_tree.specs.Tree as tree
use Rattle.c_tree.specs.View.{item_of, stmt_of}
use Rattle.c_tree.specs.Scope.{func_in}
use Rattle.c_rules.specs.FirstRule.{stmt_breaks, item_breaks, first_in_stmts, first_in_body, first_in_items}
use Rattle.c_rules.proofs.FirstOf as first

-- ---- statements

in_stmt : (s : Scope) (item i : ℕ) (stmt : tree.Stmt) (o : Option ℕ) → stmt_breaks (record { scope = s; number = i + 1; stmt = stmt }) ≡ o
    → slice_get (broken_in_stmt s item (i, stmt)) 0 ≡ option_map (λ k. record { item = item; statement = i + 1; rule = k }) o
unfolding stmt_breaks
in_stmt s item i stmt o e =
    first.first_mapped (λ k. record { item = item; statement = i + 1; rule = k })
    (broken_of stmt_rules (record { scope = s; number = i + 1; stmt = stmt }))
    ∙ ap (option_map (λ k. record { item = item; statement = i + 1; rule = k }))
    (first.first_broken_of stmt_rules (record { scope = s; number = i + 1; stmt = stmt }) ∙ e)

module _ (s : Scope) (xs : List Stmt) (are : s.body.stmts ≡ map stmt_of xs) (item i : ℕ) (whole : Option BrokenAt) where
  shown : first_in_stmts s item i ≡ slice_get (flat_map (broken_in_stmt s item) (drop i (numbered (map stmt_of xs)))) 0
  unfolding first_in_stmts
  shown = ap (λ ys. slice_get (flat_map (broken_in_stmt s item) (drop i (numbered ys))) 0) are

  pub stmts_end : length (map stmt_of xs) ≤ i → first_in_stmts s item i ≡ whole → None ≡ whole
  stmts_end past so_far = first.first_end stmt_of (broken_in_stmt s item) xs i whole past (sym shown ∙ so_far)

  module _ (x : Stmt) (lt : i < length xs) (is : x ≡ get_or xs i x) where
    pub stmts_stop : (k : ℕ) → stmt_breaks (record { scope = s; number = i + 1; stmt = stmt_of x }) ≡ Some k
        → first_in_stmts s item i ≡ whole → Some (record { item = item; statement = i + 1; rule = k }) ≡ whole
    stmts_stop k e so_far =
        first.first_stops stmt_of (broken_in_stmt s item) xs i x lt is whole _ (in_stmt s item i (stmt_of x) (Some k) e)
        (sym shown ∙ so_far)

pub stmts_more : (s : Scope) (xs : List Stmt) → s.body.stmts ≡ map stmt_of xs → (item i : ℕ) (whole : Option BrokenAt) (x : Stmt)
    → i < length xs → x ≡ get_or xs i x
    → stmt_breaks (record { scope = s; number = i + 1; stmt = stmt_of x }) ≡ None → first_in_stmts s item i ≡ whole
    → first_in_stmts s item (i + 1) ≡ whole
stmts_more s xs are item i whole x lt is e so_far =
    shown s xs are item (i + 1) whole
    ∙ first.first_more stmt_of (broken_in_stmt s item) xs i x lt is whole (in_stmt s item i (stmt_of x) None e)
    (sym (shown s xs are item i whole) ∙ so_far)

-- ---- bodies

pub body_none : (unit : List tree.Item) (i : ℕ) (f : tree.Func) → f.body ≡ None → None ≡ first_in_body unit i (tree.Function f)
unfolding first_in_body
body_none unit i f e =
    sym (ap (λ b. slice_get (elim b as (λ _. List BrokenAt) [
      | None ↦ []
      | Some b ↦ flat_map (broken_in_stmt (record { declared = take (i + 1) unit; func = f; body = b }) i)
          (numbered b.stmts)
    ]) 0) e)

pub body_some : (unit : List tree.Item) (i : ℕ) (f : tree.Func) (b : tree.Body) → f.body ≡ Some b
    → first_in_stmts (record { declared = take (i + 1) unit; func = f; body = b }) i 0 ≡ first_in_body unit i (tree.Function f)
unfolding first_in_body first_in_stmts
body_some unit i f b e =
    sym (ap (λ b. slice_get (elim b as (λ _. List BrokenAt) [
      | None ↦ []
      | Some b ↦ flat_map (broken_in_stmt (record { declared = take (i + 1) unit; func = f; body = b }) i)
          (numbered b.stmts)
    ]) 0) e)

-- an item that is no function has no statement
pub no_body : (unit : List tree.Item) (i : ℕ) (item : tree.Item) → func_in item ≡ None → None ≡ first_in_body unit i item
unfolding first_in_body
no_body unit i (tree.Function f) e = cc
no_body unit i _ e = refl

pub is_function : (item : tree.Item) (f : tree.Func) → Some f ≡ func_in item → tree.Function f ≡ item
is_function (tree.Function g) f e = ap tree.Function cc
is_function _ f e = cc

-- ---- items

module _ (xs : List Item) (i : ℕ) (whole : Option BrokenAt) where
  pub items_end : length (map item_of xs) ≤ i → first_in_items (map item_of xs) i ≡ whole → None ≡ whole
  unfolding first_in_items
  items_end past so_far = first.first_end item_of (broken_in_item (map item_of xs)) xs i whole past so_far

  module _ (x : Item) (lt : i < length xs) (is : x ≡ get_or xs i x) where
    own_broken : (o : Option ℕ) → item_breaks (record { unit = map item_of xs; number = i; item = item_of x }) ≡ o
        → slice_get {X = BrokenAt} (map (λ rule. record { item = i; statement = 0; rule = rule })
        (broken_of item_rules (record { unit = map item_of xs; number = i; item = item_of x }))) 0
        ≡ option_map (λ k. record { item = i; statement = 0; rule = k }) o
    unfolding item_breaks
    own_broken o e =
        first.first_mapped (λ k. record { item = i; statement = 0; rule = k })
        (broken_of item_rules (record { unit = map item_of xs; number = i; item = item_of x }))
        ∙ ap (option_map (λ k. record { item = i; statement = 0; rule = k }))
        (first.first_broken_of item_rules (record { unit = map item_of xs; number = i; item = item_of x }) ∙ e)

    pub items_stop : (k : ℕ) → item_breaks (record { unit = map item_of xs; number = i; item = item_of x }) ≡ Some k
        → first_in_items (map item_of xs) i ≡ whole → Some (record { item = i; statement = 0; rule = k }) ≡ whole
    unfolding first_in_items
    items_stop k e so_far =
        first.first_stops item_of (broken_in_item (map item_of xs)) xs i x lt is
        whole _ (first.first_left _ (broken_in_body (map item_of xs) i (item_of x)) _ (own_broken (Some k) e)) so_far

    pub items_stop_inside : (b : BrokenAt) → item_breaks (record { unit = map item_of xs; number = i; item = item_of x }) ≡ None
        → Some b ≡ first_in_body (map item_of xs) i (item_of x) → first_in_items (map item_of xs) i ≡ whole → Some b ≡ whole
    unfolding first_in_items first_in_body
    items_stop_inside b e inside so_far =
        first.first_stops item_of (broken_in_item (map item_of xs)) xs i x lt is whole b
        (first.first_right _ (broken_in_body (map item_of xs) i (item_of x)) (own_broken None e) ∙ sym inside) so_far

    pub items_more : item_breaks (record { unit = map item_of xs; number = i; item = item_of x }) ≡ None
        → None ≡ first_in_body (map item_of xs) i (item_of x) → first_in_items (map item_of xs) i ≡ whole
        → first_in_items (map item_of xs) (i + 1) ≡ whole
    unfolding first_in_items first_in_body
    items_more e inside so_far =
        first.first_more item_of (broken_in_item (map item_of xs)) xs i x lt is whole
        (first.first_right _ (broken_in_body (map item_of xs) i (item_of x)) (own_broken None e) ∙ sym inside) so_far

pub whole_unit : (unit : List tree.Item) → first_in_items unit 0 ≡ first_broken unit
unfolding first_in_items
whole_unit unit = refl

-- an item that breaks no rule is declared once
pub declared_once : (p : Place) → item_breaks p ≡ None → is_declared_once p ≡ true
unfolding item_breaks
declared_once p e = go (is_declared_once p) _ e
  where
    go : (b : Bool) (rest : Option ℕ) → (if b then rest else Some 1) ≡ None → b ≡ true
    go true rest e = refl
    go false rest e = cc
