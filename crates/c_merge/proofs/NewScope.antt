-- What names stand for in the scope of a function of the one unit, and the types of expressions there.
use Rattle.c_merge.proofs.Common.{if◌then◌else◌, ◌≡◌, ℕ, ◌<◌, true, false, ◌||◌, ◌≢◌, List, [], ◌∷◌, ◌++◌, map, take, is_some}
use Rattle.c_merge.proofs.Common.{slice_get, Some, None, Option, option_map, filter_map, bytes_eq, sym, refl, ap, ◌∙◌, subst, arith}
use Rattle.c_merge.proofs.Common.{both_ways, same_Some, bytes_eq-Decides, cons_option, option_or, or_assoc, by_test, if_found, named}
use Rattle.c_merge.proofs.Common.{primitives, HasType, IsElement, Scope, array_of, arrays, common_type, file_functions, file_variables}
use Rattle.c_merge.proofs.Common.{func_type_of, function_of, functions, is_among, local_variables, may_be_narrowed, name_typing}
use Rattle.c_merge.proofs.Common.{number_type, op_typing, param_variables, pointed_by, typed_if, typing_of, value_typing, variable_of}
use Rattle.c_merge.proofs.Common.{variables, CType, Program, Name, depth_name, by_option, free_names, named_from, take_keeps, each_at}
use Rattle.c_merge.proofs.Common.{merging_names, Each, is_outside, name_in, Renaming, may_name, merge_names}
use Rattle.std.proofs.lemmas.List.Elements.{filter_map-append}
use Rattle.std.proofs.lemmas.Option.{none-some}
use Rattle.c_tree.specs.declared.tree.CType.TheVariants as type
use Rattle.c_tree.specs.Tree as tree
use Rattle.c_renaming.specs.Renamed as renamed
use Rattle.c_renaming.proofs.Begins.{named-append}
use Rattle.c_renaming.proofs.NewNames.{new_names}
use Rattle.c_merge.proofs.Together.{FitTogether}
use Rattle.c_merge.proofs.NewNames.{new, new_var, outside_stays, inside_new, var_apart, new_same, new_keeps, variable_item, function_item}
use Rattle.c_merge.proofs.NewNames.{one_type, among_map}
use Rattle.c_merge.proofs.Places.{Before}
use Rattle.c_merge.proofs.Units.{func_not_runtime, variable_free, runtime_reserved}

-- ---- look-ups in lists whose names are new

abbrev entries : {A : Type 0} → (Name → Name) → List (Name × A) → List (Name × A)
entries f xs = map (λ e. (f e.0, e.1)) xs

named_new : {A : Type 0} (f : Name → Name) → ((m n : Name) → bytes_eq (f m) (f n) ≡ bytes_eq m n) → (n : Name) (xs : List (Name × A))
    → named (f n) (entries f xs) ≡ named n xs
named_new f keeps n [] = refl
named_new f keeps n (e ∷ xs) =
    ap (λ b. if b then Some e.1 else named (f n) (entries f xs)) (keeps e.0 n)
    ∙ ap (λ o. if bytes_eq e.0 n then Some e.1 else o) (named_new f keeps n xs)

filter_new : {A : Type 0} (g : tree.Item → Option A) (h : tree.Item → tree.Item) (f : A → A)
    → ((x : tree.Item) → g (h x) ≡ option_map f (g x)) → (xs : List tree.Item)
    → filter_map g (map h xs) ≡ map f (filter_map g xs)
filter_new g h f same [] = refl
filter_new {A} g h f same (x ∷ xs) = (λ i. cons_option (same x i) (filter_new g h f same xs i)) ∙ go (g x)
  where
    go : (o : Option A) → cons_option (option_map f o) (map f (filter_map g xs)) ≡ map f (cons_option o (filter_map g xs))
    go None = refl
    go (Some a) = refl

module _ (p : Program) (are : FitTogether p.units) (u : ℕ) (items : List tree.Item) (at_u : slice_get p.units u ≡ Some items) where
  abbrev ρ : Renaming
  ρ = merge_names p

  pub vars_keep : (m n : Name) → bytes_eq (new_var u m) (new_var u n) ≡ bytes_eq m n
  vars_keep = (merging_names name_in new_names p is_outside (may_name p)).vars u

  less_differ : (w : ℕ) → w < u → w ≢ u
  less_differ w less e = omega (arith, less, e)

  -- ---- names of other units

  abbrev Front : List tree.Item → Type 0
  Front others = Each (Before p u) others

  variable_other : (n : Name) (other : tree.Item) → Before p u other → (e : Name × CType) → variable_of other ≡ Some e
      → bytes_eq e.0 (new_var u n) ≡ false
  variable_other n other b e is =
      let w = b.unit in
      let from = b.from in
      let shown : option_map (λ e. (new_var w e.0, e.1)) (variable_of from.item)
      ≡ Some e = sym (ap variable_of from.is ∙ variable_item p w from.item) ∙ is in
      by_option (variable_of from.item)
      (λ none. absurd (none-some _ (sym (ap (option_map (λ e. (new_var w e.0, e.1))) none) ∙ shown)))
      (λ d there.
      let same : (new_var w d.0, d.1)
      ≡ e = same_Some (new_var w d.0, d.1) e (sym (ap (option_map (λ e. (new_var w e.0, e.1))) there) ∙ shown) in
      subst (λ (z : Name × CType). bytes_eq z.0 (new_var u n) ≡ false) same
      (var_apart u w (less_differ w b.less) d.0 n
      (variable_free from.items (are.kept w from.items from.there) from.number from.item d.0 d.1 from.at there)))

  variables_other : (n : Name) (others : List tree.Item) → Front others → named (new_var u n) (filter_map variable_of others) ≡ None
  variables_other n [] front = refl
  variables_other n (other ∷ others) front = by_option (variable_of other)
      (λ none. ap (λ o. named (new_var u n) (cons_option o (filter_map variable_of others))) none ∙ variables_other n others front.1)
      (λ e there.
      ap (λ o. named (new_var u n) (cons_option o (filter_map variable_of others))) there
      ∙ ap (λ b. if b then Some e.1 else named (new_var u n) (filter_map variable_of others)) (variable_other n other front.0 e there)
      ∙ variables_other n others front.1)

  array_other : (n : Name) (other : tree.Item) → Before p u other → (m : Name) → array_of other ≡ Some m → bytes_eq (new_var u n) m ≡ false
  array_other n other b m is = go b.from.item b.from.at (sym (ap array_of b.from.is) ∙ is)
    where
      go : (item : tree.Item) → slice_get b.from.items b.from.number ≡ Some item
          → array_of (renamed.item ρ b.unit item) ≡ Some m → bytes_eq (new_var u n) m ≡ false
      go (tree.Array x count bytes) at is =
          let own = (free_names b.from.items (are.kept b.unit b.from.items b.from.there) b.from.number (tree.Array x count bytes) at).0 in
          let same : new_var b.unit x ≡ m = same_Some (new_var b.unit x) m is in
          let apart : bytes_eq (new_var b.unit x) (new_var u n) ≡ false = var_apart u b.unit (less_differ b.unit b.less) x n own in
          by_test (bytes_eq (new_var u n) m)
          (λ yes_. absurd (both_ways (bytes_eq (new_var b.unit x) (new_var u n)) apart
          ((bytes_eq-Decides (new_var b.unit x) (new_var u n)).1 (same ∙ sym ((bytes_eq-Decides (new_var u n) m).0 yes_)))))
          (λ no_. no_)
      go _ at is = absurd (none-some _ is)

  arrays_other : (n : Name) (others : List tree.Item) → Front others → is_among (new_var u n) (filter_map array_of others) ≡ false
  arrays_other n [] front = refl
  arrays_other n (other ∷ others) front = by_option (array_of other)
      (λ none. ap (λ o. is_among (new_var u n) (cons_option o (filter_map array_of others))) none ∙ arrays_other n others front.1)
      (λ m there.
      ap (λ o. is_among (new_var u n) (cons_option o (filter_map array_of others))) there
      ∙ (λ i. array_other n other front.0 m there i || arrays_other n others front.1 i))

  -- a function of another unit that is found under this name
  record Other (n : Name) (t : tree.FuncType) : Type 0 where
    unit : ℕ
    others : List tree.Item
    there : slice_get p.units unit ≡ Some others
    number : ℕ
    func : tree.Func
    at : slice_get others number ≡ Some (tree.Function func)
    name_is : func.name ≡ n
    type_is : func_type_of func ≡ t
    outside : is_outside n ≡ true

  function_other : (n : Name) (t : tree.FuncType) (others : List tree.Item) → Front others
      → named (new u n) (filter_map function_of others) ≡ Some t → Other n t
  function_other n t others front is =
      let found = named_from function_of others (new u n) t is in
      of_item (each_at (Before p u) others front found.0 found.1 found.2) found.3
    where
      of_item : {other : tree.Item} (b : Before p u other) → function_of other ≡ Some (new u n, t) → Other n t
      of_item b is = go b.from.item b.from.at (sym (ap function_of b.from.is ∙ function_item p b.unit b.from.item) ∙ is)
        where
          go : (item : tree.Item) → slice_get b.from.items b.from.number ≡ Some item
              → option_map {U = Name × tree.FuncType} (λ e. (new b.unit e.0, e.1)) (function_of item) ≡ Some (new u n, t) → Other n t
          go (tree.Function f) at is =
              let same : (new b.unit f.name, func_type_of f)
              ≡ (new u n, t) = same_Some (new b.unit f.name, func_type_of f) (new u n, t) is in
              let name = new_same u b.unit (less_differ b.unit b.less) f.name n (ap (λ (z : Name × tree.FuncType). z.0) same) in
              record {
                unit = b.unit;
                others = b.from.items;
                there = b.from.there;
                number = b.from.number;
                func = f;
                at = at;
                name_is = name.same;
                type_is = ap (λ (z : Name × tree.FuncType). z.1) same;
                outside = name.outside;
              }
          go _ at is = absurd (none-some _ is)

  -- ---- a function's scope

  module _ (n0 : ℕ) (f : tree.Func) (b : tree.Body) (others : List tree.Item) (front : Front others) where
    abbrev pub old : Scope
    old = record { declared = take n0 items; func = f; body = b }

    abbrev pub now : Scope
    now = record { declared = others ++ map (renamed.item ρ u) (take n0 items); func = renamed.func ρ u f; body = renamed.body ρ u b }

    params_new : (params : List tree.Param)
        → filter_map (λ (q : tree.Param). option_map (λ name. (name, q.0)) q.1) (map (renamed.param ρ u) params)
        ≡ entries (new_var u) (filter_map (λ (q : tree.Param). option_map (λ name. (name, q.0)) q.1) params)
    params_new [] = refl
    params_new ((t, None) ∷ params) = params_new params
    params_new ((t, Some n) ∷ params) = ap (λ l. (new_var u n, t) ∷ l) (params_new params)

    locals_new : (locals : List tree.Local)
        → map (λ (l : tree.Local). (l.1, l.0)) (map (renamed.local ρ u) locals)
        ≡ entries (new_var u) (map (λ (l : tree.Local). (l.1, l.0)) locals)
    locals_new [] = refl
    locals_new (l ∷ locals) = ap (λ rest. (new_var u l.1, l.0) ∷ rest) (locals_new locals)

    pub file_variables_same : (n : Name) → named (new_var u n) (file_variables now) ≡ named n (file_variables old)
    file_variables_same n =
        ap (named (new_var u n)) (filter_map-append variable_of others (map (renamed.item ρ u) (take n0 items)))
        ∙ named-append (new_var u n) (filter_map variable_of others) (filter_map variable_of (map (renamed.item ρ u) (take n0 items)))
        ∙ ap (λ o. option_or o (named (new_var u n) (filter_map variable_of (map (renamed.item ρ u) (take n0 items)))))
        (variables_other n others front)
        ∙ ap (named (new_var u n))
        (filter_new variable_of (renamed.item ρ u) (λ e. (new_var u e.0, e.1)) (variable_item p u) (take n0 items))
        ∙ named_new (new_var u) vars_keep n (filter_map variable_of (take n0 items))

    runtime_same : (n : Name) → named (new_var u n) ((depth_name, type.U32) ∷ []) ≡ named n ((depth_name, type.U32) ∷ [])
    runtime_same n = ap (λ b. if b then Some type.U32 else None) (depth_same n)
      where
        depth_same : (n : Name) → bytes_eq depth_name (new_var u n) ≡ bytes_eq depth_name n
        depth_same n = rw ((merging_names name_in new_names p is_outside (may_name p)).depth u) at (vars_keep depth_name n)

    pub variables_same : (n : Name) → named (new_var u n) (variables now) ≡ named n (variables old)
    variables_same n =
        named-append (new_var u n) (param_variables now.func)
        (local_variables now.body ++ (file_variables now ++ (depth_name, type.U32) ∷ []))
        ∙ (λ i. option_or (of_params i) (of_rest i))
        ∙ sym (named-append n (param_variables f) (local_variables b ++ (file_variables old ++ (depth_name, type.U32) ∷ [])))
      where
        of_params : named (new_var u n) (param_variables now.func) ≡ named n (param_variables f)
        of_params = ap (named (new_var u n)) (params_new f.params) ∙ named_new (new_var u) vars_keep n (param_variables f)

        of_locals : named (new_var u n) (local_variables now.body) ≡ named n (local_variables b)
        of_locals = ap (named (new_var u n)) (locals_new b.locals) ∙ named_new (new_var u) vars_keep n (local_variables b)

        of_file : named (new_var u n) (file_variables now ++ (depth_name, type.U32) ∷ [])
            ≡ named n (file_variables old ++ (depth_name, type.U32) ∷ [])
        of_file = named-append (new_var u n) (file_variables now) ((depth_name, type.U32) ∷ [])
            ∙ (λ i. option_or (file_variables_same n i) (runtime_same n i))
            ∙ sym (named-append n (file_variables old) ((depth_name, type.U32) ∷ []))

        of_rest : named (new_var u n) (local_variables now.body ++ (file_variables now ++ (depth_name, type.U32) ∷ []))
            ≡ named n (local_variables b ++ (file_variables old ++ (depth_name, type.U32) ∷ []))
        of_rest = named-append (new_var u n) (local_variables now.body) (file_variables now ++ (depth_name, type.U32) ∷ [])
            ∙ (λ i. option_or (of_locals i) (of_file i))
            ∙ sym (named-append n (local_variables b) (file_variables old ++ (depth_name, type.U32) ∷ []))

    among_append : (n : Name) (xs ys : List Name) → is_among n (xs ++ ys) ≡ (is_among n xs || is_among n ys)
    among_append n [] ys = refl
    among_append n (x ∷ xs) ys = grind (arith, among_append n xs ys)

    array_item : (item : tree.Item) → array_of (renamed.item ρ u item) ≡ option_map (new_var u) (array_of item)
    array_item (tree.Array n count bytes) = refl
    array_item _ = refl

    pub arrays_same : (n : Name) → is_among (new_var u n) (arrays now) ≡ is_among n (arrays old)
    arrays_same n =
        ap (is_among (new_var u n)) (filter_map-append array_of others (map (renamed.item ρ u) (take n0 items)))
        ∙ among_append (new_var u n) (filter_map array_of others) (filter_map array_of (map (renamed.item ρ u) (take n0 items)))
        ∙ ap (λ b. b || is_among (new_var u n) (filter_map array_of (map (renamed.item ρ u) (take n0 items))))
        (arrays_other n others front)
        ∙ ap (is_among (new_var u n)) (filter_new array_of (renamed.item ρ u) (new_var u) array_item (take n0 items))
        ∙ among_map (new_var u) vars_keep n (filter_map array_of (take n0 items))

    -- ---- functions

    runtime_functions : (n : Name) → named (new u n) primitives ≡ named n primitives
    runtime_functions n = by_test (is_outside n)
        (λ out. ap (λ x. named x primitives) (outside_stays u n out))
        (λ inn. none_inside (new u n) (ap is_outside (inside_new u n inn)) ∙ sym (none_inside n inn))
      where
        none_inside : (n : Name) → is_outside n ≡ false → named n primitives ≡ None
        none_inside n inn = by_option (named n primitives) (λ none. none)
            (λ t there. absurd (both_ways (is_outside n) inn (runtime_reserved n (ap is_some there)).0))

    own_functions : (n : Name)
        → named (new u n) (filter_map function_of (map (renamed.item ρ u) (take n0 items))) ≡ named n (file_functions old)
    own_functions n =
        ap (named (new u n)) (filter_new function_of (renamed.item ρ u) (λ e. (new u e.0, e.1)) (function_item p u) (take n0 items))
        ∙ named_new (new u) (new_keeps u) n (filter_map function_of (take n0 items))

    file_functions_now : (n : Name)
        → named (new u n) (file_functions now)
        ≡ option_or (named (new u n) (filter_map function_of others)) (named n (file_functions old))
    file_functions_now n =
        ap (named (new u n)) (filter_map-append function_of others (map (renamed.item ρ u) (take n0 items)))
        ∙ named-append (new u n) (filter_map function_of others) (filter_map function_of (map (renamed.item ρ u) (take n0 items)))
        ∙ ap (option_or (named (new u n) (filter_map function_of others))) (own_functions n)

    pub file_functions_there : (n : Name) → is_some (named n (file_functions old)) ≡ true
        → is_some (named (new u n) (file_functions now)) ≡ true
    file_functions_there n is = ap is_some (file_functions_now n) ∙ go (named (new u n) (filter_map function_of others))
      where
        go : (o : Option tree.FuncType) → is_some (option_or o (named n (file_functions old))) ≡ true
        go None = is
        go (Some t) = refl

    functions_now : (n : Name)
        → named (new u n) (functions now) ≡ option_or (named (new u n) (filter_map function_of others)) (named n (functions old))
    functions_now n =
        named-append (new u n) (file_functions now) primitives
        ∙ (λ i. option_or (file_functions_now n i) (runtime_functions n i))
        ∙ or_assoc (named (new u n) (filter_map function_of others)) (named n (file_functions old)) (named n primitives)
        ∙ ap (option_or (named (new u n) (filter_map function_of others))) (sym (named-append n (file_functions old) primitives))

    -- a function that another unit declares too has the type that it has here
    other_type : (n : Name) (t t' : tree.FuncType) → Other n t' → named n (functions old) ≡ Some t → t' ≡ t
    other_type n t t' o is = by_option (named n (file_functions old))
        (λ none. absurd (clash (sym
        (named-append n (file_functions old) primitives ∙ ap (λ a. option_or a (named n primitives)) none) ∙ is)))
        (λ t2 there.
        let here : t2 ≡ t = same_Some t2 t
        (sym (ap (λ a. option_or a (named n primitives)) there) ∙ sym (named-append n (file_functions old) primitives) ∙ is) in
        let from = named_from function_of (take n0 items) n t2 there in
        sym o.type_is ∙ of_item from.0 from.1 (take_keeps n0 items from.0 from.1 from.2) from.3 ∙ here)
      where
        clash : named n primitives ≡ Some t → ⊥
        clash there =
            let none : named n primitives
            ≡ None = rw o.name_is at (func_not_runtime o.others (are.kept o.unit o.others o.there) o.number o.func o.at) in
            both_options (sym none ∙ there)
          where
            both_options : None ≡ Some t → ⊥
            both_options e = cc

        of_item : {t2 : tree.FuncType} (k : ℕ) (item : tree.Item) → slice_get items k ≡ Some item
            → function_of item ≡ Some (n, t2) → func_type_of o.func ≡ t2
        of_item k (tree.Array x count bytes) at e = absurd (none-some _ e)
        of_item k (tree.Var ty x number) at e = absurd (none-some _ e)
        of_item {t2} k (tree.Function g) at e =
            let same : (g.name, func_type_of g) ≡ (n, t2) = same_Some (g.name, func_type_of g) (n, t2) e in
            let name : g.name ≡ n = ap (λ (z : Name × tree.FuncType). z.0) same in
            one_type p are o.unit u o.others items o.number k o.func g o.there at_u o.at at (o.name_is ∙ sym name)
            (ap is_outside o.name_is ∙ o.outside)
            ∙ ap (λ (z : Name × tree.FuncType). z.1) same

    pub function_same : (n : Name) (t : tree.FuncType) → named n (functions old) ≡ Some t → named (new u n) (functions now) ≡ Some t
    function_same n t is = functions_now n ∙ by_option (named (new u n) (filter_map function_of others))
        (λ none. ap (λ a. option_or a (named n (functions old))) none ∙ is)
        (λ t' there. ap (λ a. option_or a (named n (functions old))) there
        ∙ ap Some (other_type n t t' (function_other n t' others front there) is))

    -- ---- types of expressions

    pub typing_same : (e : tree.Expr) → typing_of now (renamed.expr ρ u e) ≡ typing_of old e
    typing_same (tree.Name n) = ap name_typing (variables_same n)
    typing_same (tree.At n i) = ap (λ t. typed_if (is_some (number_type t)) IsElement) (typing_same i)
    typing_same (tree.Number v) = refl
    typing_same (tree.To32 e) = ap (λ t. typed_if (may_be_narrowed t) (HasType type.U32)) (typing_same e)
    typing_same (tree.To64 e) = ap (λ t. typed_if (is_some (number_type t)) (HasType type.U64)) (typing_same e)
    typing_same (tree.Star n) = ap (λ o. value_typing (if_found o pointed_by)) (variables_same n)
    typing_same (tree.Op o x y) = λ i. op_typing o (common_type (typing_same x i) (typing_same y i))
