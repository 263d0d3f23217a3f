-- Linked units define each symbol once, with the declared type.
use Rattle.c_link.proofs.Common.{◌≡◌, ℕ, zero, suc, ◌+◌, ◌<◌, ◌≤◌, Bool, true, false, not, ◌&&◌, ◌||◌, List, [], ◌∷◌, ◌++◌, map, length}
use Rattle.c_link.proofs.Common.{take, is_some, if◌then◌else◌, slice_get, Some, None, Option, zip, bytes_eq, sym, refl, ap, ◌∙◌, arith}
use Rattle.c_link.proofs.Common.{take_all, map-append, list_all, range_with_len, left_holds, right_holds, numbered_at, if_found, named}
use Rattle.c_link.proofs.Common.{numbered, among-append, are_distinct, same_func_type, Name, is_among, type_of_func, CType, none_clash}
use Rattle.c_link.proofs.Common.{stands_behind, LinkRefusal, NotDefined, TypeDiffers, first, first_refusal, type_found, unresolved, Offered}
use Rattle.c_link.proofs.Common.{c_symbols, host_offer, host_offers, offers, unit_offers, AllChecked, first_twice, in_item, HostSymbol}
use Rattle.c_link.proofs.Common.{append-nil}
use Rattle.std.proofs.lemmas.Bool.{and_from, not-true, or_right}
use Rattle.w2c_base.proofs.Tests.{bytes_eq-sym}
use Rattle.c_tree.specs.Tree as tree
use Rattle.c_meaning.proofs.Lookups.{bytes_equal}
use Rattle.c_link.specs.Resolved.{AreDefinedOnce, AreResolved, IsResolved, symbol_names}
use Rattle.c_link.proofs.Apart.{both_none, found_same, found_some, offer_of, says_from, typed, unit_apart}
use Rattle.c_link.proofs.FirstRefusal.{in_items, twice_in, twice_units, unresolved_in, unresolved_units}
use Rattle.c_link.proofs.Rules.{clash_none, none_under}
use Rattle.c_link.proofs.Tables.{unit_added}
use Rattle.c_link.proofs.Walks.{first_of}
use Rattle.std.proofs.lemmas.Bool.{or_from}

abbrev names : List (Name × Offered) → List Name
names entries = map (λ (e : Name × Offered). e.0) entries

-- ---- names that are found

among_named : (q : Name) (entries : List (Name × Offered)) → is_among q (names entries) ≡ is_some (named q entries)
among_named q [] = refl
among_named q (e ∷ entries) = ap (λ b. b || is_among q (names entries)) (bytes_eq-sym q e.0) ∙ go (bytes_eq e.0 q) (among_named q entries)
  where
    go : (b : Bool) → is_among q (names entries) ≡ is_some (named q entries)
        → (b || is_among q (names entries)) ≡ is_some (if b then Some e.1 else named q entries)
    go true h = refl
    go false h = h

-- names of two lists, none of which is in both
distinct_append : (xs ys : List Name) → are_distinct xs ≡ true → are_distinct ys ≡ true
    → ((q : Name) → is_among q xs ≡ true → is_among q ys ≡ false) → are_distinct (xs ++ ys) ≡ true
distinct_append [] ys e f apart = f
distinct_append (x ∷ xs) ys e f apart =
    and_from (not (is_among x (xs ++ ys))) (are_distinct (xs ++ ys))
    (ap not (among-append x xs ys ∙ or_from (is_among x xs) (is_among x ys)
    (not-true (is_among x xs) (left_holds (not (is_among x xs)) _ e)) (apart x (ap (λ b. b || is_among x xs) (bytes_equal x)))))
    (distinct_append xs ys (right_holds (not (is_among x xs)) _ e) f (λ q there. apart q (or_right (bytes_eq q x) (is_among q xs) there)))

-- ---- one unit

function_once : (u k : ℕ) (items : List tree.Item) (is_static : Bool) (result : CType) (name : Name) (params : List tree.Param)
    (o : Option tree.Body)
    → list_all (stands_behind (tree.Function (record
    { is_static = is_static; result = result; name = name; params = params; body = o }))) items ≡ true
    → are_distinct (names (unit_offers (u, items))) ≡ true
    → are_distinct (names (unit_offers (
      u,
      tree.Function (record
          { is_static = is_static; result = result; name = name; params = params; body = o }) ∷ items,
    ))) ≡ true
function_once u k items true result name params None all e = e
function_once u k items false result name params None all e = e
function_once u k items true result name params (Some body) all e = e
function_once u k items false result name params (Some body) all e =
    and_from (not (is_among name (names (unit_offers (u, items))))) (are_distinct (names (unit_offers (u, items))))
    (ap not (among_named name (unit_offers (u, items))
    ∙ ap is_some (says_from u k name items ∙ ap (offer_of u)
    (none_under name (record
    { is_static = false; result = result; name = name; params = params; body = Some body }) body refl refl k items all)))) e

unit_once : (u : ℕ) (items : List tree.Item) → none_clash items ≡ true → are_distinct (names (unit_offers (u, items))) ≡ true
unit_once u [] kept = refl
unit_once u (tree.Array name count bytes ∷ items) kept =
    unit_once u items (right_holds (list_all (stands_behind (tree.Array name count bytes)) items) (none_clash items) kept)
unit_once u (tree.Var ty name number ∷ items) kept =
    unit_once u items (right_holds (list_all (stands_behind (tree.Var ty name number)) items) (none_clash items) kept)
unit_once u (tree.Function f ∷ items) kept =
    function_once u 0 items f.is_static f.result f.name f.params f.body
    (left_holds (list_all (stands_behind (tree.Function f)) items) (none_clash items) kept)
    (unit_once u items (right_holds (list_all (stands_behind (tree.Function f)) items) (none_clash items) kept))

-- ---- hosts, and one unit after the other

host_names : (k : ℕ) (hosts : List HostSymbol)
    → names (map host_offer (zip (range_with_len k (length (c_symbols hosts))) (c_symbols hosts))) ≡ symbol_names hosts
host_names k [] = refl
host_names k (h ∷ hosts) = ap (λ ns. h.symbol ∷ ns) (host_names (k + 1) hosts)

pub none_at : {A B : Type 0} (f : A → Option B) (xs : List A) (i : ℕ) (x : A) → first_of f xs ≡ None → slice_get xs i ≡ Some x → f x
    ≡ None
none_at f [] i x e at = cc
none_at f (y ∷ xs) zero x e at = let same : y ≡ x = cc in ap f (sym same) ∙ (both_none (f y) (first_of f xs) e).0
none_at f (y ∷ xs) (suc i) x e at = none_at f xs i x (both_none (f y) (first_of f xs) e).1 at

module _ (units : List (List tree.Item)) (hosts : List HostSymbol) (none : first_twice units (c_symbols hosts) ≡ None)
    (keep : AllChecked units) (distinct : are_distinct (symbol_names hosts) ≡ true) where
  once_front : (i : ℕ) → i ≤ length units → are_distinct (names (offers (take i units) (c_symbols hosts))) ≡ true
  once_front zero le = ap are_distinct (map-append (λ (e : Name × Offered). e.0) (host_offers (c_symbols hosts)) [])
      ∙ ap (λ ns. are_distinct (ns ++ [])) (host_names 0 hosts) ∙ ap are_distinct (append-nil (symbol_names hosts)) ∙ distinct
  once_front (suc i) le =
      let less : i < length units = omega arith in
      let next : suc i ≡ i + 1 = omega arith in
      let at = there units i less in
      let front = offers (take i units) (c_symbols hosts) in
      let twice : twice_in units (c_symbols hosts) (i, at.0) ≡ None =
      none_at (twice_in units (c_symbols hosts)) (numbered units) i (i, at.0) (sym (twice_units units (c_symbols hosts)) ∙ none)
      (numbered_at units i at.0 at.1) in
      ap (λ n. are_distinct (names (offers (take n units) (c_symbols hosts)))) next
      ∙ ap (λ es. are_distinct (names es)) (unit_added units (c_symbols hosts) i at.0 less at.1)
      ∙ ap are_distinct (map-append (λ (e : Name × Offered). e.0) front (unit_offers (i, at.0)))
      ∙ distinct_append (names front) (names (unit_offers (i, at.0))) (once_front i (omega arith))
      (unit_once i at.0 (clash_none at.0 (keep i at.0 at.1).1))
      (λ q in_front. among_named q (unit_offers (i, at.0))
      ∙ ap is_some (unit_apart (type_found (take i units) (c_symbols hosts)) q
      (sym (found_some (take i units) (c_symbols hosts) q) ∙ sym (among_named q front) ∙ in_front) i at.0 twice))
    where
      there : (xs : List (List tree.Item)) (i : ℕ) → i < length xs → (x : List tree.Item) × (slice_get xs i ≡ Some x)
      there [] i less = absurd (omega arith)
      there (x ∷ xs) zero less = (x, refl)
      there (x ∷ xs) (suc i) less = there xs i (omega arith)

  pub defined_once : AreDefinedOnce units hosts
  defined_once =
      let le : length units ≤ length units = omega arith in
      sym (ap (λ us. are_distinct (names (offers us (c_symbols hosts)))) (take_all (length units) units le)) ∙ once_front
      (length units) le

-- ---- each declared symbol is resolved

pub all_resolved : (units : List (List tree.Item)) (hosts : List HostSymbol) → first_refusal units (c_symbols hosts) ≡ None
    → AreResolved units hosts
all_resolved units hosts none u items i item f at_unit at is =
    let found : Name → Option tree.FuncType = type_found units (c_symbols hosts) in
    let parts = both_none (first_twice units (c_symbols hosts)) _ none in
    let unit_none = none_at (unresolved_in found) (numbered units) u (u, items) (sym (unresolved_units found units) ∙ parts.1)
    (numbered_at units u items at_unit) in
    let item_none = none_at (in_item (unresolved found u)) items i item (sym (in_items (unresolved found u) items) ∙ unit_none) at in
    told_of (named f.name (offers units (c_symbols hosts))) refl
    (ap refusal_by (found_same units (c_symbols hosts) f.name parts.0)
    ∙ sym (ap (λ o. if_found o (λ f. first (unresolved found u f))) is) ∙ item_none)
  where
    refusal_by : Option tree.FuncType → Option LinkRefusal
    refusal_by o = first (elim o as (λ _. List LinkRefusal) [
      | None ↦ NotDefined u f.name ∷ []
      | Some ty ↦ if same_func_type ty (type_of_func f) then [] else TypeDiffers u f.name ∷ []
    ])

    by_type : (o : Offered) (b : Bool) → same_func_type o.1 (type_of_func f) ≡ b → named f.name (offers units (c_symbols hosts)) ≡ Some o
        → first (if b then [] else TypeDiffers u f.name ∷ []) ≡ None → IsResolved units hosts f
    by_type o true same found e = record { by = o; found = found; typed = same }
    by_type o false same found e = cc

    told_of : (o : Option Offered) → named f.name (offers units (c_symbols hosts)) ≡ o → refusal_by (typed o) ≡ None
        → IsResolved units hosts f
    told_of None found e = cc
    told_of (Some o) found e = by_type o (same_func_type o.1 (type_of_func f)) refl found e
