-- What stays of a unit keeps the rules that the unit keeps, where the functions that it names stay.
use Rattle.c_trim.proofs.Common.{◌≡◌, ℕ, ◌+◌, Bool, true, false, not, ◌&&◌, ◌||◌, List, [], ◌∷◌, ◌++◌, map, length, take, if◌then◌else◌}
use Rattle.c_trim.proofs.Common.{Some, None, Option, filter_map, bytes_eq, sym, refl, ap, ◌∙◌, subst, append_assoc, append-nil, length_push}
use Rattle.c_trim.proofs.Common.{filter-append, bytes_eq-Decides, AllByRecursion, list_all, both_hold, named, KeepsRules, Name, is_among}
use Rattle.c_trim.proofs.Common.{name_of, body_functions, item_functions, kept, stays, arith}
use Rattle.std.proofs.lemmas.Bool.{and_from, not-true}
use Rattle.w2c_base.proofs.Places.{take_front, take_with}
use Rattle.c_tree.specs.Tree as tree
use Rattle.c_tree.specs.Scope as scope
use Rattle.c_tree.specs.Rules as rule
use Rattle.c_trim.proofs.Lists.{all_where, all_left, any_left, any_map, any_of_left, map_left}
use Rattle.c_trim.proofs.RulesHold.{Hold, ItemHolds, ItemsHold, TextHolds, BodyHolds, item_at, moved, rules_hold, keeps_rules}
use Rattle.c_trim.proofs.SameScope.{Each, AgreeOn, stmts_hold}

-- what stays names what is needed alone
abbrev pub IsClosed : (Name → Bool) → List tree.Item → Type 0
IsClosed needed items = AllByRecursion (λ (item : tree.Item). stays needed item ≡ true → Each needed (item_functions item)) items

module _ (needed : Name → Bool) where
  -- ---- what is declared

  no_variable : (x : tree.Item) → stays needed x ≡ false → scope.variable_of x ≡ None
  no_variable (tree.Function f) e = refl
  no_variable _ e = cc

  no_array : (x : tree.Item) → stays needed x ≡ false → scope.array_of x ≡ None
  no_array (tree.Function f) e = refl
  no_array _ e = cc

  abbrev functions_in : List tree.Item → List (Name × tree.FuncType)
  functions_in items = filter_map scope.function_of items

  same_function : (x : Name) → needed x ≡ true → (items : List tree.Item)
      → named x (functions_in (kept needed items)) ≡ named x (functions_in items)
  same_function x is [] = refl
  same_function x is (tree.Array name count bytes ∷ items) = same_function x is items
  same_function x is (tree.Var ty name number ∷ items) = same_function x is items
  same_function x is (tree.Function f ∷ items) = grind (arith, same_function x is items, bytes_eq-Decides)

  agree : (items : List tree.Item) → AgreeOn needed items (kept needed items)
  agree items = record {
    variables = map_left scope.variable_of (stays needed) no_variable items;
    arrays = map_left scope.array_of (stays needed) no_array items;
    functions = λ x is. same_function x is items;
  }

  -- ---- one item, between those before it and those behind it

  module _ (before : List tree.Item) (x : tree.Item) (behind : List tree.Item) (here : stays needed x ≡ true) where
    abbrev u : List tree.Item
    u = before ++ x ∷ behind

    abbrev t : List tree.Item
    t = kept needed u

    abbrev at : ℕ
    at = length (kept needed before)

    parts : t ≡ kept needed before ++ x ∷ kept needed behind
    parts = filter-append (stays needed) before (x ∷ behind)
        ∙ ap (λ b. kept needed before ++ (if b then x ∷ kept needed behind else kept needed behind)) here

    abbrev clashes : tree.Item → Bool
    clashes other = not (bytes_eq (name_of other) (name_of x)) || rule.may_both_stand other x

    declared_once : rule.is_declared_once (item_at u (length before) x) ≡ true → rule.is_declared_once (item_at t at x) ≡ true
    declared_once e =
        ap (λ l. list_all clashes (take at l)) parts
        ∙ ap (list_all clashes) (take_front (kept needed before) (x ∷ kept needed behind))
        ∙ all_left clashes (stays needed) before (sym (ap (list_all clashes) (take_front before (x ∷ behind))) ∙ e)

    name_hidden : (name : Name) → not (is_among name (map name_of u)) ≡ true → not (is_among name (map name_of t)) ≡ true
    name_hidden name e = ap not (any_map (bytes_eq name) name_of t
        ∙ any_of_left (λ y. bytes_eq name (name_of y)) (stays needed) u
        (sym (any_map (bytes_eq name) name_of u) ∙ not-true (is_among name (map name_of u)) e))

    hides : (names : List Name) → rule.hides_none u names ≡ true → rule.hides_none t names ≡ true
    hides names e = all_where _ _ name_hidden names e

    own_distinct : (y : tree.Item) → rule.own_names_are_distinct (item_at u (length before) y) ≡ true
        → rule.own_names_are_distinct (item_at t at y) ≡ true
    own_distinct (tree.Function f) e =
        let names : List Name = rule.local_names (tree.Function f) in
        let two = both_hold (rule.params_are_named f) (rule.are_distinct names && rule.hides_none u names) e in
        let last = both_hold (rule.are_distinct names) (rule.hides_none u names) two.1 in
        and_from (rule.params_are_named f) (rule.are_distinct names && rule.hides_none t names) two.0
        (and_from (rule.are_distinct names) (rule.hides_none t names) last.0 (hides names last.1))
    own_distinct _ e = refl

    defined_static : (y : tree.Item) → stays needed y ≡ true → rule.is_defined_if_static (item_at u (length before) y) ≡ true
        → rule.is_defined_if_static (item_at t at y) ≡ true
    defined_static (tree.Function f) stay e = grind (arith, both_hold, bytes_eq-Decides, any_left)
    defined_static _ stay e = refl

    item_rules_hold : Hold rule.item_rules (item_at u (length before) x) → Hold rule.item_rules (item_at t at x)
    item_rules_hold hold = (
      declared_once hold.0,
      (hold.1.0, (hold.1.1.0, (hold.1.1.1.0, (defined_static x here hold.1.1.1.1.0, (own_distinct x hold.1.1.1.1.1.0, hold.1.1.1.1.1.1))))),
    )

    declared_agree : AgreeOn needed (take (length before + 1) u) (take (at + 1) t)
    declared_agree =
        subst (λ (l : List tree.Item). AgreeOn needed l (take (at + 1) t)) (sym (take_with before x behind))
        (subst (λ (l : List tree.Item). AgreeOn needed (before ++ x ∷ []) l)
        (sym (ap (take (at + 1)) parts ∙ take_with (kept needed before) x (kept needed behind) ∙ sym last))
        (agree (before ++ x ∷ [])))
      where
        last : kept needed (before ++ x ∷ []) ≡ kept needed before ++ x ∷ []
        last = filter-append (stays needed) before (x ∷ []) ∙ ap (λ b. kept needed before ++ (if b then x ∷ [] else [])) here

    body_holds : (f : tree.Func) (o : Option tree.Body) → Each needed (body_functions o) → BodyHolds u (length before) f o
        → BodyHolds t at f o
    body_holds f None all hold = tt
    body_holds f (Some b) all hold = stmts_hold needed (take (length before + 1) u) (take (at + 1) t) declared_agree f b 0 b.stmts all hold

    text_holds : (y : tree.Item) → Each needed (item_functions y) → TextHolds u (length before) y → TextHolds t at y
    text_holds (tree.Function f) all hold = body_holds f f.body all hold
    text_holds _ all hold = tt

    item_holds : Each needed (item_functions x) → ItemHolds u (length before) x → ItemHolds t at x
    item_holds all hold = (item_rules_hold hold.0, text_holds x all hold.1)

  -- ---- all items

  items_hold : (before items : List tree.Item) → IsClosed needed items → ItemsHold (before ++ items) (length before) items
      → ItemsHold (kept needed (before ++ items)) (length (kept needed before)) (kept needed items)
  items_hold before [] closed hold = tt
  items_hold before (x ∷ items) closed hold =
      by (stays needed x) refl (items_hold (before ++ x ∷ []) items closed.1 (moved before x items hold.1))
    where
      front : Bool → List tree.Item
      front b = kept needed before ++ (if b then x ∷ [] else [])

      all : List tree.Item
      all = kept needed (before ++ x ∷ items)

      -- the items behind, in the unit, with the number that they have there
      back : (b : Bool) → stays needed x ≡ b
          → ItemsHold (kept needed ((before ++ x ∷ []) ++ items)) (length (kept needed (before ++ x ∷ []))) (kept needed items)
          → ItemsHold all (length (front b)) (kept needed items)
      back b is rest = rw (filter-append (stays needed) before (x ∷ []) ∙ ap front is, append_assoc before (x ∷ []) items) at rest

      by : (b : Bool) → stays needed x ≡ b
          → ItemsHold (kept needed ((before ++ x ∷ []) ++ items)) (length (kept needed (before ++ x ∷ []))) (kept needed items)
          → ItemsHold all (length (kept needed before)) (if b then x ∷ kept needed items else kept needed items)
      by true is rest = (
        item_holds before x items is (closed.0 is) hold.0,
        subst (λ (k : ℕ). ItemsHold all k (kept needed items)) (length_push (kept needed before) x) (back true is rest),
      )
      by false is rest = rw (append-nil (kept needed before)) at (back false is rest)

pub kept_keeps_rules : (needed : Name → Bool) (unit : List tree.Item) → IsClosed needed unit → KeepsRules unit
    → KeepsRules (kept needed unit)
kept_keeps_rules needed unit closed keeps = keeps_rules (kept needed unit) (items_hold needed [] unit closed (rules_hold unit keeps))
