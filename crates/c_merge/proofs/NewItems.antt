-- An item of the one unit keeps the rules that it kept in its own unit.
use Rattle.c_merge.proofs.Common.{◌≡◌, ℕ, suc, ◌<◌, Bool, true, false, not, ◌&&◌, ◌||◌, ◌≢◌, List, [], ◌∷◌, ◌++◌, map, take, is_some}
use Rattle.c_merge.proofs.Common.{slice_get, Some, None, option_map, filter_map, bytes_eq, sym, refl, ap, ◌∙◌, arith}
use Rattle.c_merge.proofs.Common.{both_ways, false≢true, not-true, map-append, bytes_eq-Decides, list_all, list_any, is_some_map, all_join}
use Rattle.c_merge.proofs.Common.{by_test, KeepsRules, are_alike, file_name_is_free, has_body, is_own_name, local_names, may_both_stand}
use Rattle.c_merge.proofs.Common.{same_func_type, func_type_of, name_of, CType, Program, Name, by_option, passes_at, free_names, take_keeps}
use Rattle.c_merge.proofs.Common.{func_type_of-func, each_at, Each, is_outside, Renaming, merge_names}
use Rattle.std.proofs.Math.Bool.{or-true, and-false}
use Rattle.c_tree.specs.Tree as tree
use Rattle.c_tree.proofs.SameTypes.{same_as_itself, same_as_themselves}
use Rattle.c_renaming.specs.Renamed as renamed
use Rattle.c_merge.proofs.Together.{FitTogether}
use Rattle.c_merge.proofs.NewNames.{new, new_var, outside_stays, own_new, own_var, SameNew, new_same, new_keeps, item_name, one_type}
use Rattle.c_merge.proofs.NewStatements.{all_gives}
use Rattle.c_merge.proofs.Places.{Before, from_map}
use Rattle.c_merge.proofs.Units.{func_seen, defined_once}
use Rattle.std.proofs.lemmas.Bool.{not-false}

-- ---- lists and tests

pub all_from : {A : Type 0} (test : A → Bool) (xs : List A) → ((j : ℕ) (x : A) → slice_get xs j ≡ Some x → test x ≡ true)
    → list_all test xs ≡ true
all_from test [] holds = refl
all_from test (x ∷ xs) holds = λ i. holds 0 x refl i && all_from test xs (λ j y at. holds (suc j) y at) i

pub any_map : {A B : Type 0} (f : A → B) (test : B → Bool) (test' : A → Bool) → ((a : A) → test (f a) ≡ test' a) → (xs : List A)
    → list_any test (map f xs) ≡ list_any test' xs
any_map f test test' same [] = refl
any_map f test test' same (x ∷ xs) = λ i. same x i || any_map f test test' same xs i

pub any_behind : {A : Type 0} (test : A → Bool) (xs ys : List A) → list_any test ys ≡ true → list_any test (xs ++ ys) ≡ true
any_behind test [] ys is = is
any_behind test (x ∷ xs) ys is = ap (λ b. test x || b) (any_behind test xs ys is) ∙ or-true (test x)

pub any_front : {A : Type 0} (test : A → Bool) (xs ys : List A) → list_any test xs ≡ true → list_any test (xs ++ ys) ≡ true
any_front test [] ys is = absurd (false≢true is)
any_front test (x ∷ xs) ys is = grind (arith, test x, any_front test xs ys)

-- ---- types are equal to themselves

func_types_equal : (f : tree.FuncType) → same_func_type f f ≡ true
func_types_equal f = λ i. same_as_themselves f.params i && same_as_itself f.result i

module _ (p : Program) (are : FitTogether p.units) (u : ℕ) (items : List tree.Item) (at_u : slice_get p.units u ≡ Some items) where
  abbrev ρ : Renaming
  ρ = merge_names p

  keeps : KeepsRules items
  keeps = are.kept u items at_u

  -- ---- rule 1

  body_same : (item : tree.Item) → has_body (renamed.item ρ u item) ≡ has_body item
  body_same (tree.Function f) = is_some_map (renamed.body ρ u) f.body
  body_same _ = refl

  alike_same : (a c : tree.Item) → are_alike (renamed.item ρ u a) (renamed.item ρ u c) ≡ are_alike a c
  alike_same (tree.Function f) (tree.Function g) = grind (arith, func_type_of-func)
  alike_same (tree.Function f) (tree.Array n count bytes) = refl
  alike_same (tree.Function f) (tree.Var t n number) = refl
  alike_same (tree.Array n count bytes) c = refl
  alike_same (tree.Var t n number) c = refl

  stand_same : (a c : tree.Item) → may_both_stand (renamed.item ρ u a) (renamed.item ρ u c) ≡ may_both_stand a c
  stand_same a c = λ i. alike_same a c i && not (body_same a i && body_same c i)

  -- functions of two units that are seen under one name
  functions_stand : (w : ℕ) → w ≢ u → (others : List tree.Item) → slice_get p.units w ≡ Some others → (k j : ℕ) (g f : tree.Func)
      → slice_get others k ≡ Some (tree.Function g) → slice_get items j ≡ Some (tree.Function f) → g.name ≡ f.name
      → is_outside f.name ≡ true
      → may_both_stand (renamed.item ρ w (tree.Function g)) (renamed.item ρ u (tree.Function f)) ≡ true
  functions_stand w differ others there k j g f at_k at_j same outside =
      λ i. go g.is_static f.is_static shown_g shown_f i && not (one_body i)
    where
      outside_g : is_outside g.name ≡ true
      outside_g = ap is_outside same ∙ outside

      shown_g : g.is_static ≡ false
      shown_g = not-true g.is_static (sym (func_seen others (are.kept w others there) k g at_k) ∙ outside_g)

      shown_f : f.is_static ≡ false
      shown_f = not-true f.is_static (sym (func_seen items keeps j f at_j) ∙ outside)

      types : func_type_of (renamed.func ρ w g) ≡ func_type_of (renamed.func ρ u f)
      types = func_type_of-func ρ w g ∙ one_type p are w u others items k j g f there at_u at_k at_j same outside_g
          ∙ sym (func_type_of-func ρ u f)

      with_static : Bool → tree.Func → tree.Func
      with_static b f = record { is_static = b; result = f.result; name = f.name; params = f.params; body = f.body }

      go : (b c : Bool) → b ≡ false → c ≡ false
          → are_alike (tree.Function (with_static b (renamed.func ρ w g))) (tree.Function (with_static c (renamed.func ρ u f)))
          ≡ true
      go false false e h = ap (λ ty. same_func_type ty (func_type_of (renamed.func ρ u f))) types
          ∙ func_types_equal (func_type_of (renamed.func ρ u f))
      go true c e h = absurd (false≢true (sym e))
      go false true e h = absurd (false≢true (sym h))

      one_body : (is_some (option_map (renamed.body ρ w) g.body) && is_some (option_map (renamed.body ρ u) f.body)) ≡ false
      one_body = (λ i. is_some_map (renamed.body ρ w) g.body i && is_some_map (renamed.body ρ u) f.body i) ∙ by_option g.body
          (λ none. ap (λ o. is_some o && is_some f.body) none)
          (λ b is. by_option f.body
          (λ none. ap (λ o. is_some g.body && is_some o) none ∙ and-false (is_some g.body))
          (λ c is'. absurd (defined_once p are u w f.name differ outside
          (record { items = items; there = at_u; item = j; func = f; body = c; at = at_j; body_is = is'; name_is = refl })
          (record { items = others; there = there; item = k; func = g; body = b; at = at_k; body_is = is; name_is = same }))))

  -- an item of another unit
  others_stand : (w : ℕ) → w ≢ u → (others : List tree.Item) → slice_get p.units w ≡ Some others → (k j : ℕ) (a x : tree.Item)
      → slice_get others k ≡ Some a → slice_get items j ≡ Some x → name_of a ≡ name_of x → is_outside (name_of x) ≡ true
      → may_both_stand (renamed.item ρ w a) (renamed.item ρ u x) ≡ true
  others_stand w differ others there k j (tree.Function g) (tree.Function f) at_k at_j same outside = functions_stand w differ
      others there k j g f at_k at_j same outside
  others_stand w differ others there k j (tree.Array n count bytes) x at_k at_j same outside =
      absurd (both_ways (is_outside n) (ap not (free_names others (are.kept w others there) k (tree.Array n count bytes) at_k).0)
      (ap is_outside same ∙ outside))
  others_stand w differ others there k j (tree.Var t n number) x at_k at_j same outside =
      absurd (both_ways (is_outside n) (ap not (free_names others (are.kept w others there) k (tree.Var t n number) at_k).0)
      (ap is_outside same ∙ outside))
  others_stand w differ others there k j (tree.Function g) (tree.Array n count bytes) at_k at_j same outside =
      absurd (both_ways (is_outside n) (ap not (free_names items keeps j (tree.Array n count bytes) at_j).0) outside)
  others_stand w differ others there k j (tree.Function g) (tree.Var t n number) at_k at_j same outside =
      absurd (both_ways (is_outside n) (ap not (free_names items keeps j (tree.Var t n number) at_j).0) outside)

  abbrev pub stands_by : tree.Item → tree.Item → Bool
  stands_by x other = not (bytes_eq (name_of other) (name_of x)) || may_both_stand other x

  less_differ : (w : ℕ) → w < u → w ≢ u
  less_differ w less e = omega (arith, less, e)

  pub declared_once : (others : List tree.Item) → Each (Before p u) others → (i : ℕ) (x : tree.Item) → slice_get items i ≡ Some x
      → list_all (stands_by x) (take i items) ≡ true
      → list_all (stands_by (renamed.item ρ u x)) (others ++ map (renamed.item ρ u) (take i items)) ≡ true
  declared_once others front i x at once = all_join (stands_by (renamed.item ρ u x)) others (map (renamed.item ρ u) (take i items))
      (all_from (stands_by (renamed.item ρ u x)) others of_other)
      (all_from (stands_by (renamed.item ρ u x)) (map (renamed.item ρ u) (take i items)) of_own)
    where
      x_name : name_of (renamed.item ρ u x) ≡ new u (name_of x)
      x_name = item_name p u x (free_names items keeps i x at).0

      by_name : (w : ℕ) (a : tree.Item) → name_of (renamed.item ρ w a) ≡ new w (name_of a) → w ≢ u
          → ((name_of a ≡ name_of x) → is_outside (name_of x) ≡ true → may_both_stand (renamed.item ρ w a) (renamed.item ρ u x) ≡ true)
          → stands_by (renamed.item ρ u x) (renamed.item ρ w a) ≡ true
      by_name w a a_name differ stand = by_test (bytes_eq (name_of (renamed.item ρ w a)) (name_of (renamed.item ρ u x)))
          (λ is.
          let same : new w (name_of a) ≡ new u (name_of x) = sym a_name
          ∙ (bytes_eq-Decides (name_of (renamed.item ρ w a)) (name_of (renamed.item ρ u x))).0 is ∙ x_name in
          let s : SameNew (name_of a) (name_of x) = new_same u w differ (name_of a) (name_of x) same in
          ap (λ b. not b || may_both_stand (renamed.item ρ w a) (renamed.item ρ u x)) is ∙ stand s.same s.outside)
          (λ is. ap (λ b. not b || may_both_stand (renamed.item ρ w a) (renamed.item ρ u x)) is)

      of_other : (j : ℕ) (other : tree.Item) → slice_get others j ≡ Some other → stands_by (renamed.item ρ u x) other ≡ true
      of_other j other at_j =
          let b = each_at (Before p u) others front j other at_j in
          let w = b.unit in
          let from = b.from in
          let differ : w ≢ u = less_differ w b.less in
          let a_name = item_name p w from.item (free_names from.items (are.kept w from.items from.there) from.number from.item from.at).0 in
          ap (stands_by (renamed.item ρ u x)) from.is
          ∙ by_name w from.item a_name differ
          (λ same outside. others_stand w differ from.items from.there from.number i from.item x from.at at same outside)

      of_own : (j : ℕ) (other : tree.Item) → slice_get (map (renamed.item ρ u) (take i items)) j ≡ Some other
          → stands_by (renamed.item ρ u x) other ≡ true
      of_own j other at_j =
          let from = from_map (renamed.item ρ u) (take i items) j other at_j in
          let a = from.0 in
          let a_name = item_name p u a (free_names items keeps j a (take_keeps i items j a from.1)).0 in
          let names : bytes_eq (name_of (renamed.item ρ u a)) (name_of (renamed.item ρ u x)) ≡ bytes_eq (name_of a) (name_of x) =
          (λ k. bytes_eq (a_name k) (x_name k)) ∙ new_keeps u (name_of a) (name_of x) in
          ap (stands_by (renamed.item ρ u x)) from.2
          ∙ (λ k. not (names k) || stand_same a x k)
          ∙ passes_at (stands_by x) (take i items) once j a from.1

  -- ---- rule 2

  pub name_free : (item : tree.Item) → file_name_is_free item ≡ true → file_name_is_free (renamed.item ρ u item) ≡ true
  name_free (tree.Array n count bytes) own = ap is_own_name (own_var u n own)
  name_free (tree.Var t n number) own = ap is_own_name (own_var u n own)
  name_free (tree.Function f) is = grind (arith, by_test, not-false, own_new, outside_stays)

  params_names : (params : List tree.Param)
      → map (λ (v : Name × CType). v.0)
      (filter_map (λ (q : tree.Param). option_map (λ name. (name, q.0)) q.1) (map (renamed.param ρ u) params))
      ≡ map (new_var u) (map (λ (v : Name × CType). v.0) (filter_map (λ (q : tree.Param). option_map (λ name. (name, q.0)) q.1) params))
  params_names [] = refl
  params_names ((t, None) ∷ params) = params_names params
  params_names ((t, Some n) ∷ params) = ap (λ l. new_var u n ∷ l) (params_names params)

  locals_names : (locals : List tree.Local)
      → map (λ (v : Name × CType). v.0) (map (λ (l : tree.Local). (l.1, l.0)) (map (renamed.local ρ u) locals))
      ≡ map (new_var u) (map (λ (v : Name × CType). v.0) (map (λ (l : tree.Local). (l.1, l.0)) locals))
  locals_names [] = refl
  locals_names (l ∷ locals) = ap (λ rest. new_var u l.1 ∷ rest) (locals_names locals)

  pub own_names : (item : tree.Item) → local_names (renamed.item ρ u item) ≡ map (new_var u) (local_names item)
  own_names (tree.Function f) = grind (arith, params_names f.params, map-append, locals_names)
  own_names _ = refl

  pub locals_free : (names : List Name) → list_all is_own_name names ≡ true → list_all is_own_name (map (new_var u) names) ≡ true
  locals_free names is = all_gives (new_var u) is_own_name is_own_name (λ n own. ap is_own_name (own_var u n own)) names is
