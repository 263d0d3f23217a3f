-- A unit keeps the rules where each of its items and statements does.
use Rattle.c_trim.proofs.Common.{◌≡◌, ℕ, ◌+◌, Bool, true, not, List, [], ◌∷◌, ◌++◌, map, length, take, if◌then◌else◌, slice_get, Some, None}
use Rattle.c_trim.proofs.Common.{filter, Option, zip, flat_map, sym, refl, ap, ◌∙◌, subst, append_assoc, length_push, AllByRecursion}
use Rattle.c_trim.proofs.Common.{range_with_len, ⊤, numbered, BrokenAt, KeepsRules, broken_in_body, broken_in_item, broken_in_stmt}
use Rattle.c_trim.proofs.Common.{broken_of, broken_rules, Place, StmtPlace, item_rules, stmt_rules, Scope, arith}
use Rattle.c_tree.specs.Tree as tree
use Rattle.w2c_base.proofs.Nothing.{append_none, map_none, none_first}

-- each rule holds at a place
abbrev pub Hold : {P : Type 0} → List (ℕ × (P → Bool)) → P → Type 0
Hold {P} rules p = AllByRecursion (λ (rule : ℕ × (P → Bool)). rule.1 p ≡ true) rules

module _ {P : Type 0} (p : P) where
  abbrev numbers : Bool → ℕ × (P → Bool) → List (ℕ × (P → Bool)) → List ℕ
  numbers b rule rules = map (λ (r : ℕ × (P → Bool)). r.0)
      (if not b then rule ∷ filter (λ (r : ℕ × (P → Bool)). not (r.1 p)) rules else filter (λ (r : ℕ × (P → Bool)). not (r.1 p)) rules)

  each_holds : (rules : List (ℕ × (P → Bool))) → broken_of rules p ≡ [] → Hold rules p
  each_holds [] e = tt
  each_holds (rule ∷ rules) e = grind (arith, rule.1 p, each_holds rules)

  none_breaks : (rules : List (ℕ × (P → Bool))) → Hold rules p → broken_of rules p ≡ []
  none_breaks [] hold = refl
  none_breaks (rule ∷ rules) hold = ap (λ b. numbers b rule rules) hold.0 ∙ none_breaks rules hold.1

-- ---- statements, with their numbers from k on

abbrev pub stmt_at : Scope → ℕ → tree.Stmt → StmtPlace
stmt_at scope k s = record { scope = scope; number = k + 1; stmt = s }

abbrev pub StmtsHold : Scope → ℕ → List tree.Stmt → Type 0
StmtsHold scope k [] = ⊤
StmtsHold scope k (s ∷ stmts) = Hold stmt_rules (stmt_at scope k s) × StmtsHold scope (k + 1) stmts

abbrev in_stmts : Scope → ℕ → ℕ → List tree.Stmt → List BrokenAt
in_stmts scope item k stmts = flat_map (broken_in_stmt scope item) (zip (range_with_len k (length stmts)) stmts)

stmts_hold : (scope : Scope) (item k : ℕ) (stmts : List tree.Stmt) → in_stmts scope item k stmts ≡ [] → StmtsHold scope k stmts
stmts_hold scope item k [] e = tt
stmts_hold scope item k (s ∷ stmts) e =
    let two = append_none (broken_in_stmt scope item (k, s)) (in_stmts scope item (k + 1) stmts) e in (
      each_holds (stmt_at scope k s) stmt_rules (map_none _ (broken_of stmt_rules (stmt_at scope k s)) two.0),
      stmts_hold scope item (k + 1) stmts two.1,
    )

none_in_stmts : (scope : Scope) (item k : ℕ) (stmts : List tree.Stmt) → StmtsHold scope k stmts → in_stmts scope item k stmts ≡ []
none_in_stmts scope item k [] hold = refl
none_in_stmts scope item k (s ∷ stmts) hold = λ i.
    map (λ rule. record { item = item; statement = k + 1; rule = rule }) (none_breaks (stmt_at scope k s) stmt_rules hold.0 i)
    ++ none_in_stmts scope item (k + 1) stmts hold.1 i

-- ---- items, with their numbers from k on

abbrev pub item_at : List tree.Item → ℕ → tree.Item → Place
item_at unit k x = record { unit = unit; number = k; item = x }

abbrev pub scope_at : List tree.Item → ℕ → tree.Func → tree.Body → Scope
scope_at unit k f b = record { declared = take (k + 1) unit; func = f; body = b }

abbrev pub BodyHolds : List tree.Item → ℕ → tree.Func → Option tree.Body → Type 0
BodyHolds unit k f None = ⊤
BodyHolds unit k f (Some b) = StmtsHold (scope_at unit k f b) 0 b.stmts

abbrev pub TextHolds : List tree.Item → ℕ → tree.Item → Type 0
TextHolds unit k (tree.Array name count bytes) = ⊤
TextHolds unit k (tree.Var ty name number) = ⊤
TextHolds unit k (tree.Function f) = BodyHolds unit k f f.body

-- the item keeps the rules, and so does its text
abbrev pub ItemHolds : List tree.Item → ℕ → tree.Item → Type 0
ItemHolds unit k x = Hold item_rules (item_at unit k x) × TextHolds unit k x

abbrev pub ItemsHold : List tree.Item → ℕ → List tree.Item → Type 0
ItemsHold unit k [] = ⊤
ItemsHold unit k (x ∷ items) = ItemHolds unit k x × ItemsHold unit (k + 1) items

abbrev in_body : List tree.Item → ℕ → tree.Func → Option tree.Body → List BrokenAt
in_body unit k f body = elim body as (λ _. List BrokenAt) [
  | None ↦ []
  | Some b ↦ flat_map (broken_in_stmt (record { declared = take (k + 1) unit; func = f; body = b }) k) (numbered b.stmts)
]

text_holds : (unit : List tree.Item) (k : ℕ) (x : tree.Item) → broken_in_body unit k x ≡ [] → TextHolds unit k x
text_holds unit k (tree.Function f) e = grind (arith, stmts_hold)
text_holds unit k _ e = tt

none_in_text : (unit : List tree.Item) (k : ℕ) (x : tree.Item) → TextHolds unit k x → broken_in_body unit k x ≡ []
none_in_text unit k (tree.Function f) hold = grind (arith, none_in_stmts)
none_in_text unit k _ hold = refl

abbrev in_items : List tree.Item → ℕ → List tree.Item → List BrokenAt
in_items unit k items = flat_map (broken_in_item unit) (zip (range_with_len k (length items)) items)

abbrev of_item : List tree.Item → ℕ → tree.Item → List BrokenAt
of_item unit k x = map (λ rule. record { item = k; statement = 0; rule = rule }) (broken_of item_rules (item_at unit k x))

items_hold : (unit : List tree.Item) (k : ℕ) (items : List tree.Item) → in_items unit k items ≡ [] → ItemsHold unit k items
items_hold unit k [] e = tt
items_hold unit k (x ∷ items) e =
    let two = append_none (broken_in_item unit (k, x)) (in_items unit (k + 1) items) e in
    let parts = append_none (of_item unit k x) (broken_in_body unit k x) two.0 in (
      (
        each_holds (item_at unit k x) item_rules (map_none _ (broken_of item_rules (item_at unit k x)) parts.0),
        text_holds unit k x parts.1,
      ),
      items_hold unit (k + 1) items two.1,
    )

none_in_items : (unit : List tree.Item) (k : ℕ) (items : List tree.Item) → ItemsHold unit k items → in_items unit k items ≡ []
none_in_items unit k [] hold = refl
none_in_items unit k (x ∷ items) hold = λ i.
    (map (λ rule. record { item = k; statement = 0; rule = rule }) (none_breaks (item_at unit k x) item_rules hold.0.0 i)
    ++ none_in_text unit k x hold.0.1 i)
    ++ none_in_items unit (k + 1) items hold.1 i

pub rules_hold : (unit : List tree.Item) → KeepsRules unit → ItemsHold unit 0 unit
rules_hold unit keeps = items_hold unit 0 unit (none_first (broken_rules unit) keeps)

pub keeps_rules : (unit : List tree.Item) → ItemsHold unit 0 unit → KeepsRules unit
keeps_rules unit hold = ap (λ found. slice_get found 0) (none_in_items unit 0 unit hold)

-- the same items behind one item more
pub moved : (before : List tree.Item) (x : tree.Item) (items : List tree.Item) → ItemsHold (before ++ x ∷ items) (length before + 1) items
    → ItemsHold ((before ++ x ∷ []) ++ items) (length (before ++ x ∷ [])) items
moved before x items hold =
    rw (append_assoc before (x ∷ []) items) (subst (λ (k : ℕ). ItemsHold (before ++ x ∷ items) k items) (sym (length_push before x)) hold)
