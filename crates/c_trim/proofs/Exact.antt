-- Where all that is needed was reached, what was reached is what stays of the unit.
use Rattle.c_trim.proofs.Common.{◌≡◌, ℕ, zero, suc, ◌+◌, Bool, true, false, not, ◌&&◌, ◌||◌, ◌⊎◌, List, [], ◌∷◌, length}
use Rattle.c_trim.proofs.Common.{if◌then◌else◌, slice_get, slice_index_or, Some, None, Option, zip, bytes_eq, sym, refl, ap, ◌∙◌, subst}
use Rattle.c_trim.proofs.Common.{inl, inr, arith, take_all, bytes_eq-Decides, AllByRecursion, list_any, position_from, range_with_len}
use Rattle.c_trim.proofs.Common.{both_hold, all_at, all_from, by_test, same_tests, numbered, KeepsRules, defines, has_body, Name, is_among}
use Rattle.c_trim.proofs.Common.{name_of, AreAllReached, KnowsDefiners, Reached, definer, is_in, is_reached, IsNeeded, IsTrimmed}
use Rattle.c_trim.proofs.Common.{is_external, item_functions, kept, leads, names, stays}
use Rattle.std.proofs.lemmas.Bool.{and_from, or_right, or_left}
use Rattle.std.proofs.lemmas.Option.{slice_get_within}
use Rattle.c_tree.specs.Tree as tree
use Rattle.c_tree.specs.Rules as rule
use Rattle.c_trim.proofs.RulesHold.{ItemsHold, item_at, rules_hold}
use Rattle.c_trim.proofs.KeptText.{AreNamed, are_named}
use Rattle.c_trim.proofs.Distinct.{InOrder, in_order, may_follow}
use Rattle.c_trim.proofs.Spread.{Defined, defined_at, names_needed}

abbrev flag : List Bool → ℕ → Bool
flag flags j = slice_index_or flags j false

-- ---- places of a list

record Somewhere {A : Type 0} (test : A → Bool) (xs : List A) : Type 0 where
  at : ℕ
  item : A
  there : slice_get xs at ≡ Some item
  passes : test item ≡ true

somewhere : {A : Type 0} (test : A → Bool) (xs : List A) → list_any test xs ≡ true → Somewhere test xs
somewhere test [] e = cc
somewhere {A} test (x ∷ xs) e = by (test x) refl e (somewhere test xs)
  where
    by : (b : Bool) → test x ≡ b → (b || list_any test xs) ≡ true → (list_any test xs ≡ true → Somewhere test xs) → Somewhere test (x ∷ xs)
    by true is e behind = record { at = 0; item = x; there = refl; passes = is }
    by false is e behind = let s = behind e in record { at = suc s.at; item = s.item; there = s.there; passes = s.passes }

abbrev from : {A : Type 0} → ℕ → List A → List (ℕ × A)
from k xs = zip (range_with_len k (length xs)) xs

record SomewhereFrom {A : Type 0} (test : ℕ × A → Bool) (k : ℕ) (xs : List A) : Type 0 where
  at : ℕ
  item : A
  there : slice_get xs at ≡ Some item
  passes : test (k + at, item) ≡ true

somewhere_from : {A : Type 0} (test : ℕ × A → Bool) (k : ℕ) (xs : List A) → list_any test (from k xs) ≡ true → SomewhereFrom test k xs
somewhere_from test k [] e = cc
somewhere_from {A} test k (x ∷ xs) e = by (test (k, x)) refl e (somewhere_from test (k + 1) xs)
  where
    by : (b : Bool) → test (k, x) ≡ b → (b || list_any test (from (k + 1) xs)) ≡ true
        → (list_any test (from (k + 1) xs) ≡ true → SomewhereFrom test (k + 1) xs) → SomewhereFrom test k (x ∷ xs)
    by true is e behind =
        let n : k ≡ k + 0 = omega arith in
        record { at = 0; item = x; there = refl; passes = subst (λ m. test (m, x) ≡ true) n is }
    by false is e behind =
        let s = behind e in
        let n : k + 1 + s.at ≡ k + suc s.at = omega arith in
        record { at = suc s.at; item = s.item; there = s.there; passes = subst (λ m. test (m, s.item) ≡ true) n s.passes }

there_from : {A : Type 0} (test : ℕ × A → Bool) (k : ℕ) (xs : List A) (i : ℕ) (x : A) → slice_get xs i ≡ Some x → test (k + i, x) ≡ true
    → list_any test (from k xs) ≡ true
there_from test k [] i x there e = cc
there_from test k (y ∷ xs) zero x there e =
    let same : y ≡ x = cc in
    let n : k + 0 ≡ k = omega arith in
    or_left (test (k, y)) (list_any test (from (k + 1) xs)) ((λ j. test (sym n j, same j)) ∙ e)
there_from test k (y ∷ xs) (suc i) x there e =
    let n : k + suc i ≡ k + 1 + i = omega arith in
    or_right (test (k, y)) (list_any test (from (k + 1) xs))
    (there_from test (k + 1) xs i x there (subst (λ m. test (m, x) ≡ true) n e))

-- ---- a function is defined once

both_define : (x y : tree.Item) (name : Name) → defines name x ≡ true → defines name y ≡ true → may_follow x y ≡ true → ⊥
both_define x y name one two follow =
    let left = both_hold (bytes_eq (name_of x) name) (has_body x) one in
    let right = both_hold (bytes_eq (name_of y) name) (has_body y) two in
    grind (arith, left, right, bytes_eq-Decides, rule.are_alike x y)

one_definer_from : (name : Name) (k : ℕ) (items : List tree.Item) → InOrder items → (i : ℕ) (item : tree.Item) → slice_get items i
    ≡ Some item
    → defines name item ≡ true → position_from (defines name) k items ≡ Some (k + i)
one_definer_from name k [] order i item there e = cc
one_definer_from name k (x ∷ items) order zero item there e =
    let same : x ≡ item = cc in
    let n : k ≡ k + 0 = omega arith in
    ap (λ b. if b then Some k else position_from (defines name) (k + 1) items) (ap (defines name) same ∙ e) ∙ ap Some n
one_definer_from name k (x ∷ items) order (suc i) item there e =
    by_test (defines name x)
    (λ is. absurd (both_define x item name is e (all_at (λ (y : tree.Item). may_follow x y ≡ true) items i item order.0 there)))
    (λ is. let n : k + 1 + i ≡ k + suc i = omega arith in
    ap (λ b. if b then Some k else position_from (defines name) (k + 1) items) is
    ∙ one_definer_from name (k + 1) items order.1 i item there e ∙ ap Some n)

-- what a test finds has a place
has_position : {A : Type 0} (test : A → Bool) (k : ℕ) (xs : List A) → list_any test xs ≡ true → (m : ℕ) × (position_from test k xs ≡ Some m)
has_position test k [] e = cc
has_position {A} test k (x ∷ xs) e = by (test x) e (has_position test (k + 1) xs)
  where
    by : (b : Bool) → (b || list_any test xs) ≡ true → (list_any test xs ≡ true → (m : ℕ) × (position_from test (k + 1) xs ≡ Some m))
        → (m : ℕ) × ((if b then Some k else position_from test (k + 1) xs) ≡ Some m)
    by true e behind = (k, refl)
    by false e behind = behind e

-- what names a function has a body
names_by_body : (item : tree.Item) (x : Name) → is_among x (item_functions item) ≡ true → has_body item ≡ true
names_by_body (tree.Function f) x e = grind arith
names_by_body _ x e = cc

static_rule : (unit : List tree.Item) (k : ℕ) (items : List tree.Item) → ItemsHold unit k items → (i : ℕ) (f : tree.Func)
    → slice_get items i ≡ Some (tree.Function f) → (not f.is_static || list_any (defines f.name) unit) ≡ true
static_rule unit k [] h i f there = cc
static_rule unit k (x ∷ items) h zero f there =
    let same : x ≡ tree.Function f = cc in subst (λ y. rule.is_defined_if_static (item_at unit k y) ≡ true) same h.0.0.1.1.1.1.0
static_rule unit k (x ∷ items) h (suc i) f there = static_rule unit (k + 1) items h.1 i f there

external_symbol : (item : tree.Item) → is_external item ≡ true → rule.file_name_is_free item ≡ true → rule.is_symbol (name_of item) ≡ true
external_symbol (tree.Function f) external free = grind arith
external_symbol _ external free = cc

static_own : (f : tree.Func) → f.is_static ≡ true → rule.file_name_is_free (tree.Function f) ≡ true → rule.is_symbol f.name ≡ false
static_own f static free = grind (arith, rule.is_runtime_name f.name, rule.is_symbol f.name, rule.is_own_name f.name)

module _ (unit : List tree.Item) (keeps : KeepsRules unit) (table : List (Name × ℕ)) (knows : KnowsDefiners table unit)
    (r : Reached) (all : AreAllReached unit r) where
  hold : ItemsHold unit 0 unit
  hold = rules_hold unit keeps

  one_definer : (name : Name) (i : ℕ) (item : tree.Item) → slice_get unit i ≡ Some item → defines name item ≡ true → definer unit name
      ≡ Some i
  one_definer name i item there e =
      one_definer_from name 0 unit (in_order [] unit hold) i item there e ∙ (let n : 0 + i ≡ i = omega arith in ap Some n)

  followed : (i : ℕ) (item : tree.Item) → flag r.0 i ≡ true → slice_get unit i ≡ Some item → (x : Name)
      → is_among x (item_functions item) ≡ true
      → (m : ℕ) → definer unit x ≡ Some m → flag r.0 m ≡ true
  followed i item is there = all.followed i item (ap (is_in i) (take_all (length r.1) r.1 (omega arith)) ∙ all.reached.ordered i is) there

  begun : (i : ℕ) (item : tree.Item) (x : Name) → slice_get unit i ≡ Some item → is_external item ≡ true
      → is_among x (item_functions item) ≡ true
      → flag r.0 i ≡ true
  begun i item x there external among =
      all.begun i item (slice_get_within unit i item there) there
      (and_from (is_external item) (has_body item) external (names_by_body item x among))

  flagged : (chain : List Name) (x : Name) → leads unit chain x ≡ true → (m : ℕ) → definer unit x ≡ Some m → flag r.0 m ≡ true
  flagged [] x e m is =
      let s = somewhere (λ item. is_external item && is_among x (item_functions item)) unit e in
      let two = both_hold (is_external s.item) (is_among x (item_functions s.item)) s.passes in
      followed s.at s.item (begun s.at s.item x s.there two.0 two.1) s.there x two.1 m is
  flagged (y ∷ chain) x e m is =
      let parts = both_hold (names unit y x) (leads unit chain y) e in
      let s = somewhere (λ item. bytes_eq (name_of item) y && is_among x (item_functions item)) unit parts.0 in
      let two = both_hold (bytes_eq (name_of s.item) y) (is_among x (item_functions s.item)) s.passes in
      let here : definer unit y ≡ Some s.at =
      one_definer y s.at s.item s.there (and_from (bytes_eq (name_of s.item) y) (has_body s.item) two.0 (names_by_body s.item x two.1)) in
      followed s.at s.item (flagged chain y parts.1 s.at here) s.there x two.1 m is

  -- ---- named in the body of a function that was reached

  abbrev names_it : Name → ℕ × tree.Item → Bool
  names_it x entry = flag r.0 entry.0 && is_among x (item_functions entry.1)

  abbrev needed : Name → Bool
  needed x = list_any (names_it x) (numbered unit)

  is_needed : (x : Name) → needed x ≡ true → IsNeeded unit x
  is_needed x e =
      let s = somewhere_from (names_it x) 0 unit e in
      let two = both_hold (flag r.0 (0 + s.at)) (is_among x (item_functions s.item)) s.passes in
      let n : 0 + s.at ≡ s.at = omega arith in
      let inside : is_in s.at r.1 ≡ true = all.reached.ordered s.at (ap (flag r.0) (sym n) ∙ two.0) in
      names_needed unit table knows s.at s.item s.there (all.reached.wanted s.at s.item inside s.there) x two.1

  needed_at : (i : ℕ) (item : tree.Item) (x : Name) → slice_get unit i ≡ Some item → flag r.0 i ≡ true
      → is_among x (item_functions item) ≡ true
      → needed x ≡ true
  needed_at i item x there is among =
      let n : i ≡ 0 + i = omega arith in
      there_from (names_it x) 0 unit i item there
      (and_from (flag r.0 (0 + i)) (is_among x (item_functions item)) (ap (flag r.0) (sym n) ∙ is) among)

  tells_needed : (chain : List Name) (x : Name) → leads unit chain x ≡ true → needed x ≡ true
  tells_needed [] x e =
      let s = somewhere (λ item. is_external item && is_among x (item_functions item)) unit e in
      let two = both_hold (is_external s.item) (is_among x (item_functions s.item)) s.passes in
      needed_at s.at s.item x s.there (begun s.at s.item x s.there two.0 two.1) two.1
  tells_needed (y ∷ chain) x e =
      let parts = both_hold (names unit y x) (leads unit chain y) e in
      let s = somewhere (λ item. bytes_eq (name_of item) y && is_among x (item_functions item)) unit parts.0 in
      let two = both_hold (bytes_eq (name_of s.item) y) (is_among x (item_functions s.item)) s.passes in
      let here : definer unit y ≡ Some s.at =
      one_definer y s.at s.item s.there (and_from (bytes_eq (name_of s.item) y) (has_body s.item) two.0 (names_by_body s.item x two.1)) in
      needed_at s.at s.item x s.there (flagged chain y parts.1 s.at here) two.1

  -- ---- the same stays

  same_name : (f : tree.Func) (i : ℕ) → slice_get unit i ≡ Some (tree.Function f) → f.is_static ≡ true → needed f.name
      ≡ is_reached table r.0 f.name
  same_name f i there static =
      let found = has_position (defines f.name) 0 unit
      (sym (ap (λ b. not b || list_any (defines f.name) unit) static) ∙ static_rule unit 0 unit hold i f there) in
      let m : ℕ = found.0 in
      let reach_is : is_reached table r.0 f.name ≡ flag r.0 m =
      ap (λ (o : Option ℕ). elim o as (λ _. Bool) [ None ↦ false | Some j ↦ slice_index_or r.0 j false ]) (knows f.name ∙ found.1) in
      same_tests (needed f.name) (flag r.0 m)
      (λ is. let need = is_needed f.name is in flagged need.chain f.name need.leads_there m found.1)
      (λ is. back (defined_at unit f.name m found.1) is) ∙ sym reach_is
    where
      back : {m : ℕ} → Defined unit f.name m → flag r.0 m ≡ true → needed f.name ≡ true
      back {m} d is =
          let name : name_of d.item
          ≡ f.name = (bytes_eq-Decides (name_of d.item) f.name).0
          (both_hold (bytes_eq (name_of d.item) f.name) (has_body d.item) d.defines_it).0 in
          by name (all.reached.wanted m d.item (all.reached.ordered m is) d.there)
        where
          free : AreNamed unit
          free = are_named unit 0 unit hold

          by : name_of d.item ≡ f.name → (is_external d.item ≡ true) ⊎ IsNeeded unit (name_of d.item) → needed f.name ≡ true
          by name (inl external) =
              let symbol = external_symbol d.item external (all_at (λ (item : tree.Item). rule.file_name_is_free item
              ≡ true) unit m d.item free d.there) in
              absurd (never (rule.is_symbol f.name) (ap rule.is_symbol (sym name) ∙ symbol)
              (static_own f static (all_at (λ (item : tree.Item). rule.file_name_is_free item
              ≡ true) unit i (tree.Function f) free there)))
            where
              never : (b : Bool) → b ≡ true → b ≡ false → ⊥
              never true e g = cc
              never false e g = cc
          by name (inr need) =
              let here : IsNeeded unit f.name = subst (IsNeeded unit) name need in
              tells_needed here.chain f.name here.leads_there

  same_item : (i : ℕ) (item : tree.Item) → slice_get unit i ≡ Some item → stays needed item ≡ stays (is_reached table r.0) item
  same_item i (tree.Function f) there = by_test f.is_static
      (λ is. ap (λ b. not f.is_static || b) (same_name f i there is))
      (λ is. ap (λ b. not b || needed f.name) is ∙ sym (ap (λ b. not b || is_reached table r.0 f.name) is))
  same_item i _ there = refl

  same_kept : (items : List tree.Item) → AllByRecursion (λ (item : tree.Item). stays needed item ≡ stays (is_reached table r.0) item) items
      → kept (is_reached table r.0) items ≡ kept needed items
  same_kept [] same = refl
  same_kept (x ∷ items) same = λ i. if sym same.0 i then x ∷ same_kept items same.1 i else same_kept items same.1 i

  pub trimmed_by : IsTrimmed unit (kept (is_reached table r.0) unit)
  trimmed_by = record {
    needed = needed;
    tells = λ x. (is_needed x, λ need. tells_needed need.chain x need.leads_there);
    is = same_kept unit (all_from (λ (item : tree.Item). stays needed item ≡ stays (is_reached table r.0) item) unit same_item);
  }

pub needed_kept : (items unit : List tree.Item) → items ≡ unit → KeepsRules unit → (table : List (Name × ℕ)) → KnowsDefiners table items
    → (r : Reached) → AreAllReached items r → (t : List tree.Item) → t ≡ kept (is_reached table r.0) items → IsTrimmed unit t
needed_kept items unit same keeps table knows r all t is =
    rw same at (subst (IsTrimmed items) (sym is) (trimmed_by items (subst KeepsRules (sym same) keeps) table knows r all))
