-- The broken rules of a unit stand in order: by the item, in it by the statement, and there by the
-- rule's number. So the first in the list comes before every other one.
use Rattle.c_tree.proofs.Common.{◌≡◌, ℕ, ◌+◌, ◌≤◌, Bool, true, false, not, List, [], ◌∷◌, ◌++◌, map, length, take, if◌then◌else◌, slice_get}
use Rattle.c_tree.proofs.Common.{Some, None, Contains, filter, Option, zip, flat_map, sym, refl, ap, ◌∙◌, subst, inl, inr, arith}
use Rattle.c_tree.proofs.Common.{AllByRecursion, range_with_len, all_append, of_contained, of_each, BrokenAt, BrokenRule, IsFirstBroken}
use Rattle.c_tree.proofs.Common.{IsNotBehind, broken_in_body, broken_in_item, broken_in_stmt, broken_of, broken_rules, first_broken}
use Rattle.w2c_base.specs.Lookup.{numbered}
use Rattle.c_tree.specs.Tree as tree
use Rattle.c_tree.specs.Scope.{Scope}
use Rattle.c_tree.specs.Rules.{item_rules, stmt_rules}
use Rattle.c_tree.proofs.FirstBroken.{is_broken, one_first}

-- ---- lists in order

-- none is behind one that follows it
abbrev Ordered : List BrokenAt → Type 0
Ordered [] = Unit {0}
Ordered (a ∷ xs) = AllByRecursion (IsNotBehind a) xs × Ordered xs

-- two lists in order, of which the one has P and the other Q
ordered_append : (P Q : BrokenAt → Type 0) → ((a b : BrokenAt) → P a → Q b → IsNotBehind a b) → (xs ys : List BrokenAt)
    → AllByRecursion P xs × Ordered xs → AllByRecursion Q ys × Ordered ys → Ordered (xs ++ ys)
ordered_append P Q before [] ys one two = two.1
ordered_append P Q before (a ∷ xs) ys one two = (
  all_append (IsNotBehind a) xs ys one.1.0 (of_each Q (IsNotBehind a) (λ b is. before a b one.0.0 is) ys two.0),
  ordered_append P Q before xs ys (one.0.1, one.1.1) two,
)

-- the same with what holds in both
both_in_order : (P Q R : BrokenAt → Type 0) → ((a b : BrokenAt) → P a → Q b → IsNotBehind a b)
    → ((a : BrokenAt) → P a → R a) → ((a : BrokenAt) → Q a → R a) → (xs ys : List BrokenAt)
    → AllByRecursion P xs × Ordered xs → AllByRecursion Q ys × Ordered ys → AllByRecursion R (xs ++ ys) × Ordered (xs ++ ys)
both_in_order P Q R before left right xs ys one two = (
  all_append R xs ys (of_each P R left xs one.0) (of_each Q R right ys two.0),
  ordered_append P Q before xs ys one two,
)

-- ---- the rules of one place

-- the numbers rise, from one on
abbrev Rising : {P : Type 0} → ℕ → List (ℕ × (P → Bool)) → Type 0
Rising n [] = Unit {0}
Rising n (r ∷ rules) = (n ≤ r.0) × Rising r.0 rules

abbrev StandsAt : ℕ → ℕ → ℕ → BrokenAt → Type 0
StandsAt item statement rule b = (b.item ≡ item) × (b.statement ≡ statement) × (rule ≤ b.rule)

item_rules_rise : Rising 0 item_rules
item_rules_rise = grind arith

stmt_rules_rise : Rising 0 stmt_rules
stmt_rules_rise = grind arith

module _ {P : Type 0} (item statement : ℕ) (p : P) where
  abbrev at_rule : ℕ → BrokenAt
  at_rule rule = record { item = item; statement = statement; rule = rule }

  abbrev of_rules : List (ℕ × (P → Bool)) → List BrokenAt
  of_rules rules = map at_rule (broken_of rules p)

  abbrev InOrder : ℕ → List BrokenAt → Type 0
  InOrder n ys = AllByRecursion (StandsAt item statement n) ys × Ordered ys

  later : (n m : ℕ) → n ≤ m → (bs : List BrokenAt)
      → AllByRecursion (StandsAt item statement m) bs → AllByRecursion (StandsAt item statement n) bs
  later n m le = of_each (StandsAt item statement m) (StandsAt item statement n) (λ b is. (is.0, is.1, omega (arith, is.2)))

  after : (n : ℕ) (bs : List BrokenAt) → AllByRecursion (StandsAt item statement n) bs → AllByRecursion (IsNotBehind (at_rule n)) bs
  after n = of_each (StandsAt item statement n) (IsNotBehind (at_rule n)) (λ b is. inr (inr (sym is.0, sym is.1, is.2)))

  rules_in_order : (n : ℕ) (rules : List (ℕ × (P → Bool))) → Rising n rules → InOrder n (of_rules rules)
  rules_in_order n [] rising = (tt, tt)
  rules_in_order n (r ∷ rules) rising = by (r.1 p) (rules_in_order r.0 rules rising.1)
    where
      holds_not : ℕ × (P → Bool) → Bool
      holds_not rule = not (rule.1 p)

      kept : Bool → List (ℕ × (P → Bool))
      kept holds = if not holds then r ∷ filter holds_not rules else filter holds_not rules

      by : (holds : Bool) → InOrder r.0 (of_rules rules) → InOrder n (map at_rule (map (λ rule. rule.0) (kept holds)))
      by true behind = (later n r.0 rising.0 (of_rules rules) behind.0, behind.1)
      by false behind =
          (((refl, refl, rising.0), later n r.0 rising.0 (of_rules rules) behind.0), (after r.0 (of_rules rules) behind.0, behind.1))

-- ---- the statements of a body

abbrev InBody : ℕ → ℕ → BrokenAt → Type 0
InBody item statement b = (b.item ≡ item) × (statement ≤ b.statement)

-- of statements with their numbers from one on
abbrev of_stmts : Scope → ℕ → ℕ → List tree.Stmt → List BrokenAt
of_stmts scope item k xs = flat_map (broken_in_stmt scope item) (zip (range_with_len k (length xs)) xs)

stmts_in_order : (scope : Scope) (item k : ℕ) (xs : List tree.Stmt)
    → AllByRecursion (InBody item (k + 1)) (of_stmts scope item k xs) × Ordered (of_stmts scope item k xs)
stmts_in_order scope item k [] = (tt, tt)
stmts_in_order scope item k (x ∷ xs) =
    both_in_order (StandsAt item (k + 1) 0) (InBody item (k + 1 + 1)) (InBody item (k + 1))
    (λ a b is behind. inr (inl (is.0 ∙ sym behind.0, omega (arith, is.1, behind.1))))
    (λ a is. (is.0, omega (arith, is.1)))
    (λ a is. (is.0, omega (arith, is.1)))
    (broken_in_stmt scope item (k, x)) _
    (rules_in_order item (k + 1) (record { scope = scope; number = k + 1; stmt = x }) 0 stmt_rules stmt_rules_rise)
    (stmts_in_order scope item (k + 1) xs)

abbrev of_body : List tree.Item → ℕ → tree.Func → Option tree.Body → List BrokenAt
of_body unit item f body = elim body as (λ _. List BrokenAt) [
  | None ↦ []
  | Some b ↦ flat_map (broken_in_stmt (record { declared = take (item + 1) unit; func = f; body = b }) item) (numbered b.stmts)
]

body_in_order : (unit : List tree.Item) (item : ℕ) (x : tree.Item)
    → AllByRecursion (InBody item 1) (broken_in_body unit item x) × Ordered (broken_in_body unit item x)
body_in_order unit item (tree.Function f) = by f.body
  where
    by : (body : Option tree.Body) → AllByRecursion (InBody item 1) (of_body unit item f body) × Ordered (of_body unit item f body)
    by None = (tt, tt)
    by (Some b) = stmts_in_order (record { declared = take (item + 1) unit; func = f; body = b }) item 0 b.stmts
body_in_order unit item _ = (tt, tt)

-- ---- the items of a unit

item_in_order : (unit : List tree.Item) (k : ℕ) (x : tree.Item)
    → AllByRecursion (λ (b : BrokenAt). b.item ≡ k) (broken_in_item unit (k, x)) × Ordered (broken_in_item unit (k, x))
item_in_order unit k x =
    both_in_order (StandsAt k 0 0) (InBody k 1) (λ b. b.item ≡ k)
    (λ a b is behind. inr (inl (is.0 ∙ sym behind.0, omega (arith, is.1, behind.1))))
    (λ a is. is.0)
    (λ a is. is.0)
    _ (broken_in_body unit k x)
    (rules_in_order k 0 (record { unit = unit; number = k; item = x }) 0 item_rules item_rules_rise)
    (body_in_order unit k x)

-- of items with their numbers from one on
abbrev of_items : List tree.Item → ℕ → List tree.Item → List BrokenAt
of_items unit k xs = flat_map (broken_in_item unit) (zip (range_with_len k (length xs)) xs)

items_in_order : (unit : List tree.Item) (k : ℕ) (xs : List tree.Item)
    → AllByRecursion (λ (b : BrokenAt). k ≤ b.item) (of_items unit k xs) × Ordered (of_items unit k xs)
items_in_order unit k [] = (tt, tt)
items_in_order unit k (x ∷ xs) =
    both_in_order (λ b. b.item ≡ k) (λ b. k + 1 ≤ b.item) (λ b. k ≤ b.item)
    (λ a b is behind. inl (omega (arith, is, behind)))
    (λ a is. omega (arith, is))
    (λ a is. omega (arith, is))
    (broken_in_item unit (k, x)) _
    (item_in_order unit k x)
    (items_in_order unit (k + 1) xs)

-- ---- the first of them

not_behind_itself : (a : BrokenAt) → IsNotBehind a a
not_behind_itself a = inr (inr (refl, refl, omega arith))

least_of : (xs : List BrokenAt) (a b : BrokenAt) → Ordered xs → slice_get xs 0 ≡ Some a → Contains xs b → IsNotBehind a b
least_of [] a b ordered e there = cc
least_of (x ∷ xs) a b ordered e there =
    let same : x ≡ a = cc in
    let all : AllByRecursion (IsNotBehind a) (x ∷ xs) =
    subst (λ y. AllByRecursion (IsNotBehind y) (x ∷ xs)) same (not_behind_itself x, ordered.0) in
    of_contained (IsNotBehind a) (x ∷ xs) b all there

pub is_first : (unit : List tree.Item) (at : BrokenAt) → first_broken unit ≡ Some at → IsFirstBroken unit at
is_first unit at e = record {
  broken = is_broken unit at e;
  least = λ other there. least_of (broken_rules unit) at other (items_in_order unit 0 unit).1 e there;
}

some_first : (xs : List BrokenAt) (a : BrokenAt) → Contains xs a → (found : BrokenAt) × (slice_get xs 0 ≡ Some found)
some_first [] a there = absurd (omega (arith, there.1))
some_first (x ∷ xs) a there = (x, refl)

-- a unit that breaks a rule has a first one
pub has_first : (unit : List tree.Item) (at : BrokenAt) → BrokenRule unit at → (found : BrokenAt) × IsFirstBroken unit found
has_first unit at there = let found = some_first (broken_rules unit) at there in (found.0, is_first unit found.0 found.1)

pub is_found : (unit : List tree.Item) (at : BrokenAt) → IsFirstBroken unit at → first_broken unit ≡ Some at
is_found unit at first =
    let found = some_first (broken_rules unit) at first.broken in
    found.1 ∙ ap Some (one_first unit found.0 at (is_first unit found.0 found.1) first)
