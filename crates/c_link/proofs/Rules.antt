-- In a unit that keeps the rules each function is defined once.
use Rattle.c_link.proofs.Common.{◌≡◌, ℕ, zero, suc, ◌+◌, ◌<◌, ◌≤◌, Bool, true, false, not, ◌&&◌, ◌||◌, List, [], ◌∷◌, ◌++◌, length, take}
use Rattle.c_link.proofs.Common.{is_some, if◌then◌else◌, slice_get, Some, None, filter, Option, bytes_eq, sym, refl, ap, ◌∙◌, subst, arith}
use Rattle.c_link.proofs.Common.{take_all, bytes_eq-Decides, list_all, left_holds, right_holds, numbered_at, take_next, numbered, are_alike}
use Rattle.c_link.proofs.Common.{item_rules, Name, CType, none_clash, stands_behind, Definition, AllChecked, IsChecked}
use Rattle.c_tree.specs.Tree as tree
use Rattle.c_tree.specs.FirstBroken.{BrokenAt, KeepsRules, broken_of, broken_in_item, broken_in_body}
use Rattle.c_rules.specs.FirstRule.{item_breaks}
use Rattle.c_rules.proofs.Clashes.{none_clash_more}
use Rattle.c_rules.proofs.FirstOf.{first_broken_of}
use Rattle.c_rules.proofs.Onward.{declared_once}
use Rattle.w2c_base.proofs.Nothing.{map_none, none_at, append_none, none_first}
use Rattle.c_link.proofs.Apart.{seen_under, definitions_from, first_under}

-- ---- no items clash

breaks_none : (items : List tree.Item) (i : ℕ) (item : tree.Item) → KeepsRules items → slice_get items i ≡ Some item
    → item_breaks (record { unit = items; number = i; item = item }) ≡ None
unfolding item_breaks
breaks_none items i item keeps at =
    let none = none_at (broken_in_item items) (numbered items) i (i, item) (none_first _ keeps) (numbered_at items i item at) in
    let rules = map_none (λ (rule : ℕ). the_at i rule) (broken_of item_rules (record { unit = items; number = i; item = item }))
    (append_none _ (broken_in_body items i item) none).0 in
    sym (first_broken_of item_rules (record { unit = items; number = i; item = item })) ∙ ap (λ rs. slice_get rs 0) rules
  where
    the_at : ℕ → ℕ → BrokenAt
    the_at i rule = record { item = i; statement = 0; rule = rule }

clash_front : (items : List tree.Item) → KeepsRules items → (i : ℕ) → i ≤ length items → none_clash (take i items) ≡ true
clash_front items keeps zero le = refl
clash_front items keeps (suc i) le =
    let less : i < length items = omega arith in
    let at = there items i less in
    let next : suc i ≡ i + 1 = omega arith in
    ap (λ n. none_clash (take n items)) next ∙ ap none_clash (take_next items i at.0 at.1)
    ∙ none_clash_more at.0 (take i items) (clash_front items keeps i (omega arith))
    (declared_once (record { unit = items; number = i; item = at.0 }) (breaks_none items i at.0 keeps at.1))
  where
    there : (xs : List tree.Item) (i : ℕ) → i < length xs → (x : tree.Item) × (slice_get xs i ≡ Some x)
    there [] i less = absurd (omega arith)
    there (x ∷ xs) zero less = (x, refl)
    there (x ∷ xs) (suc i) less = there xs i (omega arith)

pub clash_none : (items : List tree.Item) → KeepsRules items → none_clash items ≡ true
clash_none items keeps =
    let le : length items ≤ length items = omega arith in
    sym (ap none_clash (take_all (length items) items le)) ∙ clash_front items keeps (length items) le

-- ---- so no two functions of a name have bodies

-- two of one name do not both have bodies, where one may stand behind the other
pub not_both : (b : Bool) → b ≡ true → (m : Bool) → m ≡ true → (n : Bool) → n ≡ true → (a : Bool)
    → (not b || (a && not (m && n))) ≡ true → ⊥
not_both true e true h true k true t = cc
not_both true e true h true k false t = cc
not_both true e true h false k a t = cc
not_both true e false h n k a t = cc
not_both false e m h n k a t = cc

-- behind a definition no other of its name stands
module _ (q : Name) (f : tree.Func) (body : tree.Body) (is : f.body ≡ Some body) (named_so : f.name ≡ q) where
  never : (g : tree.Func) → is_some g.body ≡ true → bytes_eq g.name q ≡ true → stands_behind (tree.Function f) (tree.Function g) ≡ true
      → ⊥
  never g has same stands =
      not_both (bytes_eq f.name g.name) ((bytes_eq-Decides f.name g.name).1 (named_so ∙ sym ((bytes_eq-Decides g.name q).0 same)))
      (is_some f.body) (ap is_some is) (is_some g.body) has (are_alike (tree.Function f) (tree.Function g)) stands

  function_none : (k : ℕ) (items : List tree.Item) (is_static : Bool) (result : CType) (name : Name) (params : List tree.Param)
      (o : Option tree.Body)
      → stands_behind (tree.Function f) (tree.Function (record
      { is_static = is_static; result = result; name = name; params = params; body = o })) ≡ true
      → first_under (k + 1) q items ≡ None → first_under k q
      (tree.Function (record { is_static = is_static; result = result; name = name; params = params; body = o }) ∷ items) ≡ None
  function_none k items true result name params None stands e = e
  function_none k items false result name params None stands e = e
  function_none k items true result name params (Some b) stands e = e
  function_none k items false result name params (Some b) stands e = by_test (bytes_eq name q) refl
    where
      g : tree.Func
      g = record { is_static = false; result = result; name = name; params = params; body = Some b }

      by_test : (t : Bool) → bytes_eq name q ≡ t → slice_get
          (if t then record { item = k; func = g; body = b } ∷ filter (seen_under q) (definitions_from (k + 1) items)
          else filter (seen_under q) (definitions_from (k + 1) items)) 0 ≡ None
      by_test true same = absurd (never g refl same stands)
      by_test false same = e

  pub none_under : (k : ℕ) (items : List tree.Item) → list_all (stands_behind (tree.Function f)) items ≡ true → first_under k q items
      ≡ None
  none_under k [] e = refl
  none_under k (tree.Array name count bytes ∷ items) e =
      none_under (k + 1) items (right_holds (stands_behind (tree.Function f) (tree.Array name count bytes)) _ e)
  none_under k (tree.Var ty name number ∷ items) e =
      none_under (k + 1) items (right_holds (stands_behind (tree.Function f) (tree.Var ty name number)) _ e)
  none_under k (tree.Function g ∷ items) e =
      function_none k items g.is_static g.result g.name g.params g.body
      (left_holds (stands_behind (tree.Function f) (tree.Function g)) _ e)
      (none_under (k + 1) items (right_holds (stands_behind (tree.Function f) (tree.Function g)) _ e))

abbrev pub first_defined : ℕ → Name → List tree.Item → Option Definition
first_defined k q items = slice_get (filter (λ (d : Definition). bytes_eq d.func.name q) (definitions_from k items)) 0

-- ---- units that all keep the rules

keep_push : (xs : List (List tree.Item)) (x : List tree.Item) → AllChecked xs → IsChecked x → AllChecked (xs ++ x ∷ [])
keep_push [] x all keeps zero items at = let same : x ≡ items = cc in subst IsChecked same keeps
keep_push [] x all keeps (suc k) items at = cc
keep_push (y ∷ xs) x all keeps zero items at = all zero items at
keep_push (y ∷ xs) x all keeps (suc k) items at = keep_push xs x (λ i. all (suc i)) keeps k items at

pub keep_next : (xs : List (List tree.Item)) (i : ℕ) (x : List tree.Item) → slice_get xs i ≡ Some x → AllChecked (take i xs)
    → IsChecked x → AllChecked (take (i + 1) xs)
keep_next xs i x at all keeps = subst AllChecked (sym (take_next xs i x at)) (keep_push (take i xs) x all keeps)
