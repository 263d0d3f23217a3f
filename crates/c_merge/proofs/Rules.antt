-- A unit keeps the rules exactly where each item and each statement keeps them.
use Rattle.c_merge.proofs.Common.{◌≡◌, ℕ, ◌+◌, Bool, true, not, List, [], ◌∷◌, ◌++◌, map, take, if◌then◌else◌, slice_get, Some, None, sym}
use Rattle.c_merge.proofs.Common.{filter, Option, flat_map, refl, ap, ◌∙◌, AllByRecursion, append_none, flat_empty, map_none, numbered_at}
use Rattle.c_merge.proofs.Common.{by_test, numbered, BrokenAt, KeepsRules, broken_in_body, broken_in_item, broken_in_stmt, broken_of, Scope}
use Rattle.c_merge.proofs.Common.{broken_rules, item_rules, stmt_rules, by_option, at_numbered, cons_not_none, flat_none, none_first}
use Rattle.c_tree.specs.Tree as tree

abbrev pub Keeps : {P : Type 0} → List (ℕ × (P → Bool)) → P → Type 0
Keeps {P} rules p = AllByRecursion (λ (rule : ℕ × (P → Bool)). rule.1 p ≡ true) rules

abbrev pub scope_at : List tree.Item → ℕ → tree.Func → tree.Body → Scope
scope_at items k f b = record { declared = take (k + 1) items; func = f; body = b }

-- each item and each statement keeps the rules
pub record KeepsAll (items : List tree.Item) : Type 0 where
  pub item : (k : ℕ) (item : tree.Item) → slice_get items k ≡ Some item
      → Keeps item_rules (record { unit = items; number = k; item = item })
  pub stmt : (k : ℕ) (f : tree.Func) (b : tree.Body) → slice_get items k ≡ Some (tree.Function f) → f.body ≡ Some b
      → (j : ℕ) (stmt : tree.Stmt) → slice_get b.stmts j ≡ Some stmt
      → Keeps stmt_rules (record { scope = scope_at items k f b; number = j + 1; stmt = stmt })

-- ---- from a unit to its places

abbrev numbers : {P : Type 0} → ℕ × (P → Bool) → List (ℕ × (P → Bool)) → P → Bool → List ℕ
numbers {P} rule rules p b = map (λ (r : ℕ × (P → Bool)). r.0)
    (if not b then rule ∷ filter (λ (r : ℕ × (P → Bool)). not (r.1 p)) rules else filter (λ (r : ℕ × (P → Bool)). not (r.1 p)) rules)

none_keeps : {P : Type 0} (rules : List (ℕ × (P → Bool))) (p : P) → broken_of rules p ≡ [] → Keeps rules p
none_keeps [] p e = tt
none_keeps (rule ∷ rules) p e = by_test (rule.1 p)
    (λ is. (is, none_keeps rules p (ap (numbers rule rules p) (sym is) ∙ e)))
    (λ is. absurd (cons_not_none rule.0 (broken_of rules p) (ap (numbers rule rules p) (sym is) ∙ e)))

keeps_none : {P : Type 0} (rules : List (ℕ × (P → Bool))) (p : P) → Keeps rules p → broken_of rules p ≡ []
keeps_none [] p keeps = refl
keeps_none (rule ∷ rules) p keeps = ap (numbers rule rules p) keeps.0 ∙ keeps_none rules p keeps.1

module _ (items : List tree.Item) where
  abbrev own : ℕ → tree.Item → List BrokenAt
  own k item = map (λ rule. record { item = k; statement = 0; rule = rule })
      (broken_of item_rules (record { unit = items; number = k; item = item }))

  abbrev in_stmts : ℕ → tree.Func → Option tree.Body → List BrokenAt
  in_stmts k f o = elim o [
    | None ↦ []
    | Some b ↦ flat_map (broken_in_stmt (record { declared = take (k + 1) items; func = f; body = b }) k) (numbered b.stmts)
  ]

  pub keeps_all : KeepsRules items → KeepsAll items
  keeps_all keeps = record { item = item_keeps; stmt = stmt_keeps }
    where
      none : (k : ℕ) (item : tree.Item) → slice_get items k ≡ Some item → (own k item ≡ []) × (broken_in_body items k item ≡ [])
      none k item at = append_none (own k item) (broken_in_body items k item)
          (flat_none (broken_in_item items) (numbered items) (none_first (broken_rules items) keeps) k (k, item)
          (numbered_at items k item at))

      item_keeps : (k : ℕ) (item : tree.Item) → slice_get items k ≡ Some item
          → Keeps item_rules (record { unit = items; number = k; item = item })
      item_keeps k item at = none_keeps item_rules (record { unit = items; number = k; item = item })
          (map_none (λ rule. record { item = k; statement = 0; rule = rule })
          (broken_of item_rules (record { unit = items; number = k; item = item })) (none k item at).0)

      stmt_keeps : (k : ℕ) (f : tree.Func) (b : tree.Body) → slice_get items k ≡ Some (tree.Function f) → f.body ≡ Some b
          → (j : ℕ) (stmt : tree.Stmt) → slice_get b.stmts j ≡ Some stmt
          → Keeps stmt_rules (record { scope = scope_at items k f b; number = j + 1; stmt = stmt })
      stmt_keeps k f b at is j stmt here =
          let body : in_stmts k f (Some b) ≡ [] = sym (ap (in_stmts k f) is) ∙ (none k (tree.Function f) at).1 in
          none_keeps stmt_rules (record { scope = scope_at items k f b; number = j + 1; stmt = stmt })
          (map_none (λ rule. record { item = k; statement = j + 1; rule = rule })
          (broken_of stmt_rules (record { scope = scope_at items k f b; number = j + 1; stmt = stmt }))
          (flat_none (broken_in_stmt (scope_at items k f b) k) (numbered b.stmts) body j (j, stmt) (numbered_at b.stmts j stmt here)))

-- ---- from the places to the unit

pub all_keep : (items : List tree.Item) → KeepsAll items → KeepsRules items
all_keep items all = ap (λ l. slice_get l 0) (flat_empty (broken_in_item items) (numbered items) each)
  where
    nothing_own : (k : ℕ) (item : tree.Item) → slice_get items k ≡ Some item → own items k item ≡ []
    nothing_own k item at = ap (map (λ rule. record { item = k; statement = 0; rule = rule }))
        (keeps_none item_rules (record { unit = items; number = k; item = item }) (all.item k item at))

    of_stmt : (k : ℕ) (f : tree.Func) (b : tree.Body) → slice_get items k ≡ Some (tree.Function f) → f.body ≡ Some b
        → (j : ℕ) (entry : ℕ × tree.Stmt)
        → slice_get (numbered b.stmts) j ≡ Some entry → broken_in_stmt (scope_at items k f b) k entry ≡ []
    of_stmt k f b at is j entry here =
        let from = at_numbered b.stmts j entry here in
        ap (broken_in_stmt (scope_at items k f b) k) from.2
        ∙ ap (map (λ rule. record { item = k; statement = j + 1; rule = rule }))
        (keeps_none stmt_rules (record { scope = scope_at items k f b; number = j + 1; stmt = from.0 })
        (all.stmt k f b at is j from.0 from.1))

    in_body : (k : ℕ) (item : tree.Item) → slice_get items k ≡ Some item → broken_in_body items k item ≡ []
    in_body k (tree.Function f) at = by_option f.body
        (λ none. ap (in_stmts items k f) none)
        (λ b is. ap (in_stmts items k f) is
        ∙ flat_empty (broken_in_stmt (scope_at items k f b) k) (numbered b.stmts) (of_stmt k f b at is))
    in_body k _ at = refl

    each : (i : ℕ) (entry : ℕ × tree.Item) → slice_get (numbered items) i ≡ Some entry → broken_in_item items entry ≡ []
    each i entry at =
        let from = at_numbered items i entry at in
        ap (broken_in_item items) from.2 ∙ (λ j. nothing_own i from.0 from.1 j ++ in_body i from.0 from.1 j)
