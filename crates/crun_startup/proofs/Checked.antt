-- In a checked unit each name has letters, and what is defined under a name stands at one item.
use Rattle.crun_startup.proofs.Common.{◌≡◌, ℕ, zero, suc, ◌+◌, Bool, true, false, ◌&&◌, ◌||◌, List, [], ◌∷◌, map, get_or, is_some}
use Rattle.crun_startup.proofs.Common.{if◌then◌else◌, slice_get, Some, None, Option, bytes_eq, sym, refl, ap, ◌∙◌, subst, arith}
use Rattle.crun_startup.proofs.Common.{bytes_eq-Decides, AllByRecursion, list_all, option_or, left_holds, right_holds, if_found, Name}
use Rattle.crun_startup.proofs.Common.{IsName, NamedItem, CType, none_clash, stands_behind, defined, definition_of, not_both, defined_is}
use Rattle.crun_startup.proofs.Common.{defined_name, entry_in, found_at, function_in, definition_in, function_name}
use Rattle.std.proofs.lemmas.Bool.{false≢true}
use Rattle.w2c_base.proofs.Tests.{test_at}
use Rattle.c_tree.specs.Tree as tree
use Rattle.c_tree.specs.Rules.{are_alike}
use Rattle.c_meaning.proofs.Lookups.{bytes_equal}
use Rattle.std.proofs.lemmas.Option.{same_Some}

-- ---- items that define

-- an item that defines a name is a function of this name that has a body
pub record Defines (item : tree.Item) (q : Name) : Type 0 where
  pub func : tree.Func
  pub body : tree.Body
  pub is : item ≡ tree.Function func
  pub has : func.body ≡ Some body
  pub named : func.name ≡ q

function_of : (is_static : Bool) (result : CType) (name : Name) (params : List tree.Param) (o : Option tree.Body) (q : Name)
    → defined_name (tree.Function (record { is_static = is_static; result = result; name = name; params = params; body = o })) ≡ Some q
    → Defines (tree.Function (record { is_static = is_static; result = result; name = name; params = params; body = o })) q
function_of is_static result name params None q e = absurd cc
function_of is_static result name params (Some body) q e =
    record { func = _; body = body; is = refl; has = refl; named = same_Some name q e }

pub defines : (item : tree.Item) (q : Name) → defined_name item ≡ Some q → Defines item q
defines (tree.Function f) q e = function_of f.is_static f.result f.name f.params f.body q e
defines _ q e = absurd cc

-- two definitions of a name clash
pub clash : (x item : tree.Item) (r q : Name) → defined_name x ≡ Some r → defined_name item ≡ Some q → bytes_eq r q ≡ true
    → stands_behind x item ≡ true → ⊥
clash x item r q one other same stands =
    let a = defines x r one in
    let b = defines item q other in
    let names : bytes_eq a.func.name b.func.name ≡ true =
    (bytes_eq-Decides a.func.name b.func.name).1 (a.named ∙ (bytes_eq-Decides r q).0 same ∙ sym b.named) in
    not_both (bytes_eq a.func.name b.func.name) names (is_some a.func.body) (ap is_some a.has) (is_some b.func.body) (ap is_some b.has)
    (are_alike (tree.Function a.func) (tree.Function b.func))
    (sym (ap (λ y. stands_behind y (tree.Function b.func)) a.is) ∙ sym (ap (stands_behind x) b.is) ∙ stands)

-- the item that defines a name is the first that does
pub first_is : (k : ℕ) (items : List tree.Item) (i : ℕ) (item : tree.Item) (q : Name) → none_clash items ≡ true
    → slice_get items i ≡ Some item → defined_name item ≡ Some q → entry_in k q (map defined_name items) ≡ Some (k + i)
first_is k [] i item q kept at is = absurd cc
first_is k (x ∷ items) zero item q kept at is =
    let same : x ≡ item = cc in
    let here : k ≡ k + 0 = omega arith in
    ap (λ o. option_or (found_at k o q) (entry_in (k + 1) q (map defined_name items))) (ap defined_name same ∙ is)
    ∙ ap (λ b. option_or (if b then Some k else None) (entry_in (k + 1) q (map defined_name items))) (bytes_equal q)
    ∙ ap Some here
first_is k (x ∷ items) (suc i) item q kept at is =
    let here : (k + 1) + i ≡ k + suc i = omega arith in
    ap (λ o. option_or o (entry_in (k + 1) q (map defined_name items))) (not_found (defined_name x) refl)
    ∙ first_is (k + 1) items i item q (right_holds (list_all (stands_behind x) items) (none_clash items) kept) at is ∙ ap Some here
  where
    not_found : (o : Option Name) → defined_name x ≡ o → found_at k o q ≡ None
    not_found None e = refl
    not_found (Some r) e = by_test (bytes_eq r q) refl
      where
        by_test : (b : Bool) → bytes_eq r q ≡ b → (if b then Some k else None) ≡ None
        by_test false same = refl
        by_test true same =
            absurd (clash x item r q e is same
            (test_at (stands_behind x) items i item (left_holds (list_all (stands_behind x) items) (none_clash items) kept) at))

-- no item defines the name of no letters
nameless_item : (item : tree.Item) → NamedItem item → (r : Name) → defined_name item ≡ Some r → bytes_eq r [] ≡ false
nameless_item item named r e =
    let d = defines item r e in
    let is_name : IsName d.func.name = (subst NamedItem d.is named).0 in
    go r (subst IsName d.named is_name)
  where
    go : (r : Name) → IsName r → bytes_eq r [] ≡ false
    go [] is = absurd (false≢true is)
    go (b ∷ bs) is = refl

pub nameless : (k : ℕ) (items : List tree.Item) → AllByRecursion NamedItem items → entry_in k [] (map defined_name items) ≡ None
nameless k [] named = refl
nameless k (x ∷ items) named =
    ap (λ o. option_or o (entry_in (k + 1) [] (map defined_name items))) (not_found (defined_name x) refl)
    ∙ nameless (k + 1) items named.1
  where
    not_found : (o : Option Name) → defined_name x ≡ o → found_at k o [] ≡ None
    not_found None e = refl
    not_found (Some r) e = ap (λ b. if b then Some k else None) (nameless_item x named.0 r e)

-- ---- the name of an item's function has that item's definition

function_nothing : (i : ℕ) (is_static : Bool) (result : CType) (name : Name) (params : List tree.Param) (o : Option tree.Body)
    → defined_name (tree.Function (record { is_static = is_static; result = result; name = name; params = params; body = o })) ≡ None
    → definition_of (i, tree.Function (record { is_static = is_static; result = result; name = name; params = params; body = o })) ≡ None
function_nothing i is_static result name params None e = refl
function_nothing i is_static result name params (Some body) e = absurd cc

nothing_defined : (i : ℕ) (item : tree.Item) → defined_name item ≡ None → definition_of (i, item) ≡ None
nothing_defined i (tree.Function f) e = function_nothing i f.is_static f.result f.name f.params f.body e
nothing_defined i _ e = refl

name_past : (items : List tree.Item) (i : ℕ) → slice_get items i ≡ None → get_or (map function_name items) i [] ≡ []
name_past [] i e = refl
name_past (x ∷ items) zero e = absurd cc
name_past (x ∷ items) (suc i) e = name_past items i e

name_at : (items : List tree.Item) (i : ℕ) (item : tree.Item) → slice_get items i ≡ Some item
    → get_or (map function_name items) i [] ≡ function_name item
name_at [] i item e = absurd cc
name_at (x ∷ items) zero item e = let same : x ≡ item = cc in ap function_name same
name_at (x ∷ items) (suc i) item e = name_at items i item e

module _ (items : List tree.Item) (kept : none_clash items ≡ true) (named : AllByRecursion NamedItem items) where
  abbrev name_of_item : ℕ → Name
  name_of_item i = get_or (map function_name items) i []

  no_definition : (i : ℕ) → name_of_item i ≡ [] → definition_in items i ≡ None → defined items (name_of_item i) ≡ definition_in items i
  no_definition i none nothing =
      ap (defined items) none ∙ defined_is [] items ∙ ap (λ o. if_found o (λ i. definition_in items i)) (nameless 0 items named)
      ∙ sym nothing

  pub own_definition : (i : ℕ) → defined items (name_of_item i) ≡ definition_in items i
  own_definition i = at (slice_get items i) refl
    where
      at : (o : Option tree.Item) → slice_get items i ≡ o → defined items (name_of_item i) ≡ definition_in items i
      at None e = no_definition i (name_past items i e) (ap (λ o. if_found o (λ item. definition_of (i, item))) e)
      at (Some item) e = by_name (defined_name item) refl
        where
          by_name : (o : Option Name) → defined_name item ≡ o → defined items (name_of_item i) ≡ definition_in items i
          by_name None is =
              no_definition i (name_at items i item e ∙ ap (λ o. elim o [ None ↦ [] | Some name ↦ name ]) is)
              (ap (λ o. if_found o (λ item. definition_of (i, item))) e ∙ nothing_defined i item is)
          by_name (Some q) is =
              let name : name_of_item i ≡ q = name_at items i item e ∙ ap (λ o. elim o [ None ↦ [] | Some name ↦ name ]) is in
              let number : 0 + i ≡ i = omega arith in
              ap (defined items) name ∙ defined_is q items
              ∙ ap (λ o. if_found o (λ i. definition_in items i)) (first_is 0 items i item q kept e is ∙ ap Some number)

-- a number that a name has is that of an item with this name
abbrev NamedAt : ℕ → Name → List tree.Item → ℕ → Type 0
NamedAt k q items n = (j : ℕ) × (n ≡ k + j) × (get_or (map function_name items) j [] ≡ q)

named_by : (k : ℕ) (q : Name) (x : tree.Item) (items : List tree.Item) (n : ℕ)
    → (entry_in (k + 1) q (map defined_name items) ≡ Some n → NamedAt (k + 1) q items n) → (o : Option Name) → defined_name x ≡ o
    → option_or (found_at k o q) (entry_in (k + 1) q (map defined_name items)) ≡ Some n → NamedAt k q (x ∷ items) n
named_by k q x items n rest o is e = by_name o is e
  where
    later : entry_in (k + 1) q (map defined_name items) ≡ Some n → NamedAt k q (x ∷ items) n
    later e =
        let found = rest e in
        let number : (k + 1) + found.0 ≡ k + suc found.0 = omega arith in
        (suc found.0, found.1 ∙ number, found.2)

    number_of : Some k ≡ Some n → n ≡ k + 0
    number_of e = let same : k ≡ n = cc in omega (arith, same)

    by_test : (r : Name) → defined_name x ≡ Some r → (b : Bool) → bytes_eq r q ≡ b
        → option_or (if b then Some k else None) (entry_in (k + 1) q (map defined_name items)) ≡ Some n → NamedAt k q (x ∷ items) n
    by_test r is true same e =
        (0, number_of e, ap (λ o. elim o [ None ↦ [] | Some name ↦ name ]) is ∙ (bytes_eq-Decides r q).0 same)
    by_test r is false same e = later e

    by_name : (o : Option Name) → defined_name x ≡ o
        → option_or (found_at k o q) (entry_in (k + 1) q (map defined_name items)) ≡ Some n → NamedAt k q (x ∷ items) n
    by_name None is e = later e
    by_name (Some r) is e = by_test r is (bytes_eq r q) refl e

entry_named : (k : ℕ) (q : Name) (items : List tree.Item) (n : ℕ) → entry_in k q (map defined_name items) ≡ Some n → NamedAt k q items n
entry_named k q [] n e = absurd cc
entry_named k q (x ∷ items) n e = named_by k q x items n (λ e. entry_named (k + 1) q items n e) (defined_name x) refl e

pub function_named : (q : Name) (items : List tree.Item) (i : ℕ) → function_in q items ≡ Some i → get_or (map function_name items) i [] ≡ q
function_named q items i e =
    let found = entry_named 0 q items i e in
    let number : 0 + found.0 ≡ found.0 = omega arith in
    ap (λ n. get_or (map function_name items) n []) (found.1 ∙ number) ∙ found.2
