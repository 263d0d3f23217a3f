-- The rules on types, first values, static functions, names of a function's own and bodies, for an item of the one unit.
use Rattle.c_merge.proofs.Common.{◌≡◌, ℕ, zero, suc, ◌+◌, true, not, ◌&&◌, ◌||◌, ◌≢◌, List, [], ◌∷◌, ◌++◌, map, length, take, drop, is_some}
use Rattle.c_merge.proofs.Common.{nat_le, slice_get, Some, None, Option, option_map, bytes_eq, sym, refl, ap, ◌∙◌, subst, inl, inr, arith}
use Rattle.c_merge.proofs.Common.{and_parts, both_ways, cases_order, false≢true, length-map, bytes_eq-Decides, list_all, list_any}
use Rattle.c_merge.proofs.Common.{is_some_map, by_test, are_distinct, body_is_not_empty, defines, file_name_is_free, first_values_suit}
use Rattle.c_merge.proofs.Common.{hides_none, if_any, is_defined_if_static, is_own_name, is_result_type, is_value_type, item_rules}
use Rattle.c_merge.proofs.Common.{local_names, locals_have_values, locals_suit, number_suits, own_names_are_distinct, params_are_named}
use Rattle.c_merge.proofs.Common.{proper_params, types_are_proper, is_among, name_of, CType, bytes_equal, Program, Name, any_from}
use Rattle.c_merge.proofs.Common.{free_names, split, Each, joined, is_outside, Renaming, merge_names, merged}
use Rattle.std.proofs.Math.Bool.{and-false}
use Rattle.c_tree.specs.declared.tree.CType.TheVariants as type
use Rattle.c_tree.specs.Tree as tree
use Rattle.c_renaming.specs.Renamed as renamed
use Rattle.c_merge.proofs.Together.{FitTogether}
use Rattle.c_merge.proofs.NewItems.{any_map, any_behind, any_front, declared_once, name_free, own_names, locals_free, stands_by}
use Rattle.c_merge.proofs.NewNames.{new, new_var, own_new, own_var, SameNew, new_same, new_keeps, item_name, among_map}
use Rattle.c_merge.proofs.NewStatements.{all_map, or_gives}
use Rattle.c_merge.proofs.Places.{Before, Placed, from_map, placed_at}
use Rattle.c_merge.proofs.Rules.{Keeps}
use Rattle.std.proofs.lemmas.Map.Keys.{any_passes_from_place}
use Rattle.std.proofs.lemmas.Option.{same_Some}
use Rattle.c_merge.proofs.NewScope.{vars_keep}

module _ (p : Program) (are : FitTogether p.units) (u : ℕ) (items : List tree.Item) (at_u : slice_get p.units u ≡ Some items) where
  abbrev ρ : Renaming
  ρ = merge_names p

  -- ---- rules 3, 4 and 12

  params_proper : (params : List tree.Param)
      → proper_params (map (renamed.param ρ u) params) ≡ map (renamed.param ρ u) (proper_params params)
  params_proper [] = refl
  params_proper ((type.Void, None) ∷ []) = refl
  params_proper ((type.Void, Some n) ∷ []) = refl
  params_proper ((type.U32, n) ∷ []) = refl
  params_proper ((_, n) ∷ []) = refl
  params_proper ((type.Void, None) ∷ r ∷ params) = refl
  params_proper ((type.Void, Some n) ∷ r ∷ params) = refl
  params_proper ((type.U32, n) ∷ r ∷ params) = refl
  params_proper ((_, n) ∷ r ∷ params) = refl

  values_same : (locals : List tree.Local)
      → list_all (λ (v : Name × CType). is_value_type v.1) (map (λ (l : tree.Local). (l.1, l.0)) (map (renamed.local ρ u) locals))
      ≡ list_all (λ (v : Name × CType). is_value_type v.1) (map (λ (l : tree.Local). (l.1, l.0)) locals)
  values_same [] = refl
  values_same (l ∷ locals) = ap (λ b. is_value_type l.0 && b) (values_same locals)

  locals_same : (o : Option tree.Body) → locals_have_values (option_map (renamed.body ρ u) o) ≡ locals_have_values o
  locals_same None = refl
  locals_same (Some b) = values_same b.locals

  types_same : (unit unit' : List tree.Item) (k i : ℕ) (item : tree.Item)
      → types_are_proper (record { unit = unit'; number = k; item = renamed.item ρ u item })
      ≡ types_are_proper (record { unit = unit; number = i; item = item })
  types_same unit unit' k i (tree.Function f) = λ j.
      (is_result_type f.result && (ap (list_all (λ (q : tree.Param). is_value_type q.0)) (params_proper f.params)
      ∙ all_map (renamed.param ρ u) (λ (q : tree.Param). is_value_type q.0) (λ (q : tree.Param). is_value_type q.0) (λ q. refl)
      (proper_params f.params)) j)
      && locals_same f.body j
  types_same unit unit' k i _ = refl

  suits_same : (o : Option tree.Body) → locals_suit (option_map (renamed.body ρ u) o) ≡ locals_suit o
  suits_same None = refl
  suits_same (Some b) = all_map (renamed.local ρ u) (λ (l : tree.Local). number_suits l.0 l.2)
      (λ (l : tree.Local). number_suits l.0 l.2) (λ l. refl) b.locals

  first_same : (unit unit' : List tree.Item) (k i : ℕ) (item : tree.Item)
      → first_values_suit (record { unit = unit'; number = k; item = renamed.item ρ u item })
      ≡ first_values_suit (record { unit = unit; number = i; item = item })
  first_same unit unit' k i (tree.Function f) = suits_same f.body
  first_same unit unit' k i _ = refl

  filled_same : (unit unit' : List tree.Item) (k i : ℕ) (item : tree.Item)
      → body_is_not_empty (record { unit = unit'; number = k; item = renamed.item ρ u item })
      ≡ body_is_not_empty (record { unit = unit; number = i; item = item })
  filled_same unit unit' k i (tree.Function f) = go f.body
    where
      go : (o : Option tree.Body)
          → if_any (option_map (renamed.body ρ u) o) (λ b. nat_le 1 (length b.stmts)) ≡ if_any o (λ b. nat_le 1 (length b.stmts))
      go None = refl
      go (Some b) = ap (nat_le 1) (length-map b.stmts (renamed.stmt ρ u))
  filled_same unit unit' k i _ = refl

  -- ---- rule 5

  defines_same : (n : Name) (item : tree.Item) → defines (new u n) (renamed.item ρ u item) ≡ defines n item
  defines_same n (tree.Array x count bytes) = and-false (bytes_eq (new_var u x) (new u n)) ∙ sym (and-false (bytes_eq x n))
  defines_same n (tree.Var t x number) = and-false (bytes_eq (new_var u x) (new u n)) ∙ sym (and-false (bytes_eq x n))
  defines_same n (tree.Function f) = λ i. new_keeps u f.name n i && is_some_map (renamed.body ρ u) f.body i

  defined_there : (n : Name) → list_any (defines n) items ≡ true → list_any (defines (new u n)) (merged p.units) ≡ true
  defined_there n is =
      let here : list_any (defines (new u n)) (map (renamed.item ρ u) items)
      ≡ true = any_map (renamed.item ρ u) (defines (new u n)) (defines n) (defines_same n) items ∙ is in
      let zero_u : 0 + u ≡ u = omega arith in
      ap (list_any (defines (new u n))) (split ρ 0 u p.units items at_u
      ∙ ap (λ k. joined ρ 0 (take u p.units) ++ (map (renamed.item ρ k) items ++ joined ρ (0 + u + 1) (drop (suc u) p.units))) zero_u)
      ∙ any_behind (defines (new u n)) (joined ρ 0 (take u p.units))
      (map (renamed.item ρ u) items ++ joined ρ (0 + u + 1) (drop (suc u) p.units))
      (any_front (defines (new u n)) (map (renamed.item ρ u) items) (joined ρ (0 + u + 1) (drop (suc u) p.units)) here)

  static_defined : (k i : ℕ) (item : tree.Item) → is_defined_if_static (record { unit = items; number = i; item = item }) ≡ true
      → is_defined_if_static (record { unit = merged p.units; number = k; item = renamed.item ρ u item }) ≡ true
  static_defined k i (tree.Function f) is = or_gives (not f.is_static) (list_any (defines f.name) items)
      (list_any (defines (new u f.name)) (merged p.units)) is (defined_there f.name)
  static_defined k i _ is = refl

  -- ---- rule 6

  named_same : (f : tree.Func) → params_are_named (renamed.func ρ u f) ≡ params_are_named f
  named_same f = λ i. not (is_some_map (renamed.body ρ u) f.body i)
      || (ap (list_all (λ (q : tree.Param). is_some q.1)) (params_proper f.params)
      ∙ all_map (renamed.param ρ u) (λ (q : tree.Param). is_some q.1) (λ (q : tree.Param). is_some q.1)
      (λ q. is_some_map (new_var u) q.1) (proper_params f.params)) i

  distinct_same : (names : List Name) → are_distinct (map (new_var u) names) ≡ are_distinct names
  distinct_same [] = refl
  distinct_same (n ∷ names) = λ i. not (among_map (new_var u) (vars_keep p are u items at_u) n names i) && distinct_same names i

  -- a name of file scope of the one unit that is a new name of this unit was one of its own
  among_own : (n : Name) → is_own_name n ≡ true → is_among (new_var u n) (map name_of (merged p.units)) ≡ true
      → is_among n (map name_of items) ≡ true
  among_own n own is =
      let found = any_from (bytes_eq (new_var u n)) (map name_of (merged p.units)) is in
      let item = from_map name_of (merged p.units) found.0 found.1 found.2 in
      let place : Placed p (take found.0 (merged p.units)) item.0 = placed_at p found.0 item.0 item.1 in
      let from = place.from in
      let w = place.unit in
      let named_so : name_of item.0 ≡ new w (name_of from.item) =
      ap name_of from.is ∙ item_name p w from.item
      (free_names from.items (are.kept w from.items from.there) from.number from.item from.at).0 in
      let same : new w (name_of from.item) ≡ new u n =
      sym named_so ∙ sym item.2 ∙ sym ((bytes_eq-Decides (new_var u n) found.1).0 found.3) ∙ own_var u n own ∙ sym (own_new u n own) in
      by_unit w from.items from.there from.number from.item from.at same
    where
      here : (others : List tree.Item) → slice_get p.units u ≡ Some others → (k : ℕ) (a : tree.Item)
          → slice_get others k ≡ Some a → new u (name_of a) ≡ new u n
          → is_among n (map name_of items) ≡ true
      here others there k a at same =
          let one : others ≡ items = same_Some others items (sym there ∙ at_u) in
          let at' : slice_get items k ≡ Some a = subst (λ (l : List tree.Item). slice_get l k ≡ Some a) one at in
          let equal : bytes_eq n (name_of a) ≡ true =
          sym (new_keeps u n (name_of a)) ∙ ap (bytes_eq (new u n)) same ∙ bytes_equal (new u n) in
          any_passes_from_place (bytes_eq n) (map name_of items) k (name_of a) (mapped items k at') equal
        where
          mapped : (xs : List tree.Item) (k : ℕ) → slice_get xs k ≡ Some a → slice_get (map name_of xs) k ≡ Some (name_of a)
          mapped [] k at = absurd cc
          mapped (x ∷ xs) zero at = let e : x ≡ a = cc in ap (λ z. Some (name_of z)) e
          mapped (x ∷ xs) (suc k) at = mapped xs k at

      elsewhere : (w : ℕ) → w ≢ u → (a : tree.Item) → new w (name_of a) ≡ new u n → ⊥
      elsewhere w differ a same =
          let s : SameNew (name_of a) n = new_same u w differ (name_of a) n same in
          both_ways (is_outside n) (ap not own) s.outside

      by_unit : (w : ℕ) (others : List tree.Item) → slice_get p.units w ≡ Some others → (k : ℕ) (a : tree.Item)
          → slice_get others k ≡ Some a → new w (name_of a) ≡ new u n
          → is_among n (map name_of items) ≡ true
      by_unit w others there k a at same = elim (cases_order w u) [
        | inl equal ↦ here others (subst (λ v. slice_get p.units v ≡ Some others) equal there) k a at (rw equal at same)
        | inr (inl less) ↦ absurd (elsewhere w (λ e. omega (arith, less, e)) a same)
        | inr (inr more) ↦ absurd (elsewhere w (λ e. omega (arith, more, e)) a same)
      ]

  hidden_none : (names : List Name) → list_all is_own_name names ≡ true → hides_none items names ≡ true
      → hides_none (merged p.units) (map (new_var u) names) ≡ true
  hidden_none [] own none = refl
  hidden_none (n ∷ names) own none =
      let owns = and_parts (is_own_name n) (list_all is_own_name names) own in
      let nones = and_parts (not (is_among n (map name_of items))) (hides_none items names) none in
      λ i. not_among n owns.0 nones.0 i && hidden_none names owns.1 nones.1 i
    where
      not_among : (n : Name) → is_own_name n ≡ true → not (is_among n (map name_of items)) ≡ true
          → not (is_among (new_var u n) (map name_of (merged p.units))) ≡ true
      not_among n own none = by_test (is_among (new_var u n) (map name_of (merged p.units)))
          (λ is. absurd (false≢true (sym (ap not (among_own n own is)) ∙ none)))
          (λ is. ap not is)

  names_distinct : (k i : ℕ) (item : tree.Item) → list_all is_own_name (local_names item) ≡ true
      → own_names_are_distinct (record { unit = items; number = i; item = item }) ≡ true
      → own_names_are_distinct (record { unit = merged p.units; number = k; item = renamed.item ρ u item }) ≡ true
  names_distinct k i (tree.Function f) own is =
      let names = local_names (tree.Function f) in
      let parts = and_parts (params_are_named f) (are_distinct names && hides_none items names) is in
      let both = and_parts (are_distinct names) (hides_none items names) parts.1 in
      let new_ones = own_names p are u items at_u (tree.Function f) in
      λ j. (named_same f ∙ parts.0) j
      && ((ap are_distinct new_ones ∙ distinct_same names ∙ both.0) j
      && (ap (hides_none (merged p.units)) new_ones ∙ hidden_none names own both.1) j)
  names_distinct k i _ own is = refl

  -- ---- all of them

  pub item_keeps : (others : List tree.Item) → Each (Before p u) others → (k i : ℕ) (x : tree.Item) → slice_get items i ≡ Some x
      → take k (merged p.units) ≡ others ++ map (renamed.item ρ u) (take i items)
      → Keeps item_rules (record { unit = items; number = i; item = x })
      → Keeps item_rules (record { unit = merged p.units; number = k; item = renamed.item ρ u x })
  item_keeps others front k i x at front_is h =
      let frees = and_parts (file_name_is_free x) (list_all is_own_name (local_names x)) h.1.0 in
      let once = ap (list_all (stands_by p are u items at_u (renamed.item ρ u x))) front_is
      ∙ declared_once p are u items at_u others front i x at h.0 in
      let names = ap (list_all is_own_name) (own_names p are u items at_u x) ∙ locals_free p are u items at_u (local_names x) frees.1 in
      let free' : (file_name_is_free (renamed.item ρ u x) && list_all is_own_name (local_names (renamed.item ρ u x))) ≡ true =
      λ j. name_free p are u items at_u x frees.0 j && names j in
      let first = first_same items (merged p.units) k i x ∙ h.1.1.1.0 in
      let own = names_distinct k i x frees.1 h.1.1.1.1.1.0 in
      let filled = filled_same items (merged p.units) k i x ∙ h.1.1.1.1.1.1.0 in
      (once, (free', (types_same items (merged p.units) k i x ∙ h.1.1.0, (first, (static_defined k i x h.1.1.1.1.0, (own, (filled, tt)))))))
