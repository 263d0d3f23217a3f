-- Whether an item clashes with an earlier one is told by the first of its name and by what is
-- defined, where the earlier ones do not clash.
use Rattle.c_rules.proofs.Common.{◌≡◌, ℕ, Bool, true, false, not, ◌&&◌, ◌||◌, List, [], ◌∷◌, ◌++◌, if◌then◌else◌, ◌==◌, Some, None, Option}
use Rattle.c_rules.proofs.Common.{bytes_eq, sym, refl, ap, ◌∙◌, arith, list_all, list_any, named, are_alike, has_body, may_both_stand}
use Rattle.c_rules.proofs.Common.{same_func_type, same_type, same_types, func_type_of, name_of, CType, by_names, defined_of, none_clash}
use Rattle.c_rules.proofs.Common.{stands_behind}
use Rattle.std.proofs.lemmas.Bool.Decides.{nat_tests}
use Rattle.std.proofs.lemmas.Slice.Eq.{bytes_eq-Decides}
use Rattle.std.proofs.lemmas.Bool.{and_from}
use Rattle.w2c_base.proofs.Conjunctions.{left_holds, right_holds}
use Rattle.c_tree.specs.Tree as tree
use Rattle.c_rules.proofs.Defined.{defined_front}

-- ---- of truth values

-- ---- items that are alike

same_number : (a b c : ℕ) → (a == b) ≡ true → (a == c) ≡ true → (b == c) ≡ true
same_number a b c e f = grind (arith, nat_tests)

same_through : (t u v : CType) → same_type t u ≡ true → same_type t v ≡ true → same_type u v ≡ true
same_through t u v e f = same_number _ _ _ e f

types_through : (ts us vs : List CType) → same_types ts us ≡ true → same_types ts vs ≡ true → same_types us vs ≡ true
types_through [] [] [] e f = refl
types_through (t ∷ ts) (u ∷ us) (v ∷ vs) e f =
    and_from (same_type u v) (same_types us vs) (same_through t u v (left_holds _ _ e) (left_holds _ _ f))
    (types_through ts us vs (right_holds _ _ e) (right_holds _ _ f))
types_through [] [] (v ∷ vs) e f = cc
types_through [] (u ∷ us) vs e f = cc
types_through (t ∷ ts) [] vs e f = cc
types_through (t ∷ ts) (u ∷ us) [] e f = cc

abbrev agree : Bool → Bool → Bool
agree true b = b
agree false b = not b

same_linkage : (a b c : Bool) → agree a b ≡ true → agree a c ≡ true → agree b c ≡ true
same_linkage true true true e k = refl
same_linkage true true false e k = cc
same_linkage true false c e k = cc
same_linkage false false false e k = refl
same_linkage false false true e k = cc
same_linkage false true c e k = cc

alike_through : (x y z : tree.Item) → are_alike x y ≡ true → are_alike x z ≡ true → are_alike y z ≡ true
alike_through (tree.Function f) (tree.Function g) (tree.Function h) e k =
    let first = right_holds (agree f.is_static g.is_static) (same_func_type (func_type_of f) (func_type_of g)) e in
    let second = right_holds (agree f.is_static h.is_static) (same_func_type (func_type_of f) (func_type_of h)) k in
    and_from (agree g.is_static h.is_static) (same_func_type (func_type_of g) (func_type_of h))
    (same_linkage f.is_static g.is_static h.is_static (left_holds _ (same_func_type (func_type_of f) (func_type_of g)) e)
    (left_holds _ (same_func_type (func_type_of f) (func_type_of h)) k))
    (and_from (same_types (func_type_of g).params (func_type_of h).params) (same_type g.result h.result)
    (types_through (func_type_of f).params (func_type_of g).params (func_type_of h).params
    (left_holds _ (same_type f.result g.result) first) (left_holds _ (same_type f.result h.result) second))
    (same_through f.result g.result h.result (right_holds (same_types (func_type_of f).params (func_type_of g).params) _ first)
    (right_holds (same_types (func_type_of f).params (func_type_of h).params) _ second)))
alike_through (tree.Function f) (tree.Function g) (tree.Array n m bs) e k = cc
alike_through (tree.Function f) (tree.Function g) (tree.Var t n v) e k = cc
alike_through (tree.Function f) (tree.Array n m bs) z e k = cc
alike_through (tree.Function f) (tree.Var t n v) z e k = cc
alike_through (tree.Array n m bs) y z e k = cc
alike_through (tree.Var t n v) y z e k = cc

-- ---- the first of a name decides

joined : (named_so alike body ours behind tail : Bool) → (named_so ≡ true → alike ≡ true) → tail ≡ not (behind && ours)
    → ((not named_so || (alike && not (body && ours))) && tail) ≡ not (((named_so && body) || behind) && ours)
joined false alike body ours behind tail a e = e
joined true alike body ours behind tail a e = ap (λ b. (b && not (body && ours)) && tail) (a refl) ∙ go body ours e
  where
    go : (body ours : Bool) → tail ≡ not (behind && ours) → (not (body && ours) && tail) ≡ not ((body || behind) && ours)
    go true true e = refl
    go true false e = e ∙ none behind
      where
        none : (b : Bool) → not (b && false) ≡ true
        none true = refl
        none false = refl
    go false true e = e
    go false false e = e

module _ (item : tree.Item) where
  -- what an earlier item is asked
  abbrev stands : tree.Item → Bool
  stands other = not (bytes_eq (name_of other) (name_of item)) || may_both_stand other item

  pub none_named : (items : List tree.Item) → named (name_of item) (by_names items) ≡ None → list_all stands items ≡ true
  none_named [] e = refl
  none_named (x ∷ items) e =
      go (bytes_eq (name_of x) (name_of item)) (named (name_of item) (by_names items)) (list_all stands items) e (none_named items)
    where
      go : (b : Bool) (found : Option tree.Item) (tail : Bool) → (if b then Some x else found) ≡ None → (found ≡ None → tail ≡ true)
          → ((not b || may_both_stand x item) && tail) ≡ true
      go true found tail e t = cc
      go false found tail e t = t e

  -- behind an item that is alike, and of the same name
  behind_alike : (first : tree.Item) (items : List tree.Item) → name_of first ≡ name_of item → are_alike first item ≡ true
      → list_all (stands_behind first) items ≡ true
      → list_all stands items ≡ not (list_any (bytes_eq (name_of item)) (defined_of items) && has_body item)
  behind_alike first [] name alike e = refl
  behind_alike first (x ∷ items) name alike e =
      joined (bytes_eq (name_of x) (name_of item)) (are_alike x item) (has_body x) (has_body item)
      (list_any (bytes_eq (name_of item)) (defined_of items)) (list_all stands items)
      (λ same. alike_through first x item (first_alike same) alike)
      (behind_alike first items name alike (right_holds (stands_behind first x) _ e))
      ∙ sym (ap (λ b. not (b && has_body item)) (defined_front (name_of item) x items))
    where
      said : (b : Bool) (m n : Bool) → b ≡ true → (not b || (m && n)) ≡ true → m ≡ true
      said true true n h k = refl
      said true false n h k = cc
      said false m n h k = cc

      first_alike : bytes_eq (name_of x) (name_of item) ≡ true → are_alike first x ≡ true
      first_alike same =
          let names : name_of first ≡ name_of x = name ∙ sym ((bytes_eq-Decides (name_of x) (name_of item)).0 same) in
          said (bytes_eq (name_of first) (name_of x)) (are_alike first x) (not (has_body first && has_body x))
          ((bytes_eq-Decides (name_of first) (name_of x)).1 names) (left_holds (stands_behind first x) _ e)

  pub first_named : (items : List tree.Item) (first : tree.Item) → none_clash items ≡ true
      → named (name_of item) (by_names items) ≡ Some first
      → list_all stands items ≡ (are_alike first item && not (list_any (bytes_eq (name_of item)) (defined_of items) && has_body item))
  first_named [] first kept e = cc
  first_named (x ∷ items) first kept e =
      go (bytes_eq (name_of x) (name_of item))
      (first_named items first (right_holds (list_all (stands_behind x) items) (none_clash items) kept)) refl e
      ∙ sym (ap (λ b. are_alike first item && not (b && has_body item)) (defined_front (name_of item) x items))
    where
      alike_or_not : (a : Bool) → are_alike x item ≡ a → bytes_eq (name_of x) (name_of item) ≡ true
          → ((are_alike x item && not (has_body x && has_body item)) && list_all stands items)
          ≡ (are_alike x item && not ((has_body x || list_any (bytes_eq (name_of item)) (defined_of items)) && has_body item))
      alike_or_not true a same =
          joined true (are_alike x item) (has_body x) (has_body item) (list_any (bytes_eq (name_of item)) (defined_of items))
          (list_all stands items) (λ _. a)
          (behind_alike x items ((bytes_eq-Decides (name_of x) (name_of item)).0 same) a (left_holds _ (none_clash items) kept))
          ∙ ap (λ b. b && not ((has_body x || list_any (bytes_eq (name_of item)) (defined_of items)) && has_body item)) (sym a)
      alike_or_not false a same =
          ap (λ b. (b && not (has_body x && has_body item)) && list_all stands items) a
          ∙ ap (λ b. b && not ((has_body x || list_any (bytes_eq (name_of item)) (defined_of items)) && has_body item)) (sym a)

      go : (b : Bool) → (named (name_of item) (by_names items) ≡ Some first
          → list_all stands items ≡ (are_alike first item && not (list_any (bytes_eq (name_of item)) (defined_of items) && has_body item)))
          → bytes_eq (name_of x) (name_of item) ≡ b → (if b then Some x else named (name_of item) (by_names items)) ≡ Some first
          → ((not b || may_both_stand x item) && list_all stands items)
          ≡ (are_alike first item && not (((b && has_body x) || list_any (bytes_eq (name_of item)) (defined_of items))
          && has_body item))
      go true rest same e =
          alike_or_not (are_alike x item) refl same
          ∙ ap (λ y. are_alike y item && not ((has_body x || list_any (bytes_eq (name_of item)) (defined_of items)) && has_body item))
          (is_it e)
        where
          is_it : ◌≡◌ {A = Option tree.Item} (Some x) (Some first) → x ≡ first
          is_it e = cc
      go false rest same e = rest e

  -- one more item that stands
  pub none_clash_more : (items : List tree.Item) → none_clash items ≡ true → list_all stands items ≡ true
      → none_clash (items ++ item ∷ []) ≡ true
  none_clash_more [] kept e = refl
  none_clash_more (x ∷ items) kept e =
      and_from (list_all (stands_behind x) (items ++ item ∷ [])) (none_clash (items ++ item ∷ []))
      (all_push (stands_behind x) items (left_holds _ (none_clash items) kept) (left_holds (stands x) _ e))
      (none_clash_more items (right_holds _ (none_clash items) kept) (right_holds (stands x) _ e))
    where
      all_push : (p : tree.Item → Bool) (ys : List tree.Item) → list_all p ys ≡ true → p item ≡ true → list_all p (ys ++ item ∷ []) ≡ true
      all_push p [] h k = and_from (p item) true k refl
      all_push p (y ∷ ys) h k = and_from (p y) _ (left_holds (p y) _ h) (all_push p ys (right_holds (p y) _ h) k)
