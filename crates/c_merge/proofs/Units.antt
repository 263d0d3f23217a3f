-- Linked units that keep the rules may become one.
use Rattle.c_merge.proofs.Common.{◌≡◌, ℕ, zero, suc, ◌+◌, ◌<◌, Bool, true, false, not, ◌&&◌, ◌||◌, ◌≢◌, List, [], ◌∷◌, ◌++◌, take, is_some}
use Rattle.c_merge.proofs.Common.{if◌then◌else◌, slice_get, Some, None, Option, filter_map, bytes_eq, sym, refl, ap, ◌∙◌, subst, inl, inr}
use Rattle.c_merge.proofs.Common.{and_parts, cases_order, false≢true, not-true, or_cases, bytes_eq-Decides, list_all, list_any}
use Rattle.c_merge.proofs.Common.{by_test, if_found, named, KeepsRules, is_known, is_own_name, is_symbol, stmt_suits}
use Rattle.c_merge.proofs.Common.{stmt_uses, primitives, Scope, file_variables, function_of, variable_of, CType, Program}
use Rattle.c_merge.proofs.Common.{defined, defined_for_all, definition_at, definitions, is_external, Name, depth_name, by_option, any_from}
use Rattle.c_merge.proofs.Common.{defined_names, is_listed, static_defined, free_names, stmt_kept, first_there, named_from, take_keeps}
use Rattle.c_merge.proofs.Common.{Each, KeptStmt, Foreign, IsDefinedOnce, KeepsSeen, MayMerge, MayUse, Own, is_outside, name_in, Renaming}
use Rattle.c_merge.proofs.Common.{declares, may_be_named, may_name, merge_names, AllByRecursion, AsArray, AsFunction, AsVariable, Use}
use Rattle.c_merge.proofs.Common.{arith}
use Rattle.std.proofs.Math.Bool.{or-true}
use Rattle.c_tree.specs.Tree as tree
use Rattle.c_renaming.specs.Parts.{KeptBody, KeptItem}
use Rattle.c_renaming.proofs.KeptStatements.{KeptUse, kept_stmt}
use Rattle.c_renaming.proofs.NewNames.{new_names, primitives_outside}
use Rattle.c_merge.proofs.Together.{FitTogether, Shows}

-- ---- lists

pub each_from : {A : Type 0} (P : A → Type 0) (xs : List A) → ((i : ℕ) (x : A) → slice_get xs i ≡ Some x → P x) → Each P xs
each_from P [] h = tt
each_from P (x ∷ xs) h = (h 0 x refl, each_from P xs (λ i y at. h (suc i) y at))

same_first : {A : Type 0} (a b : Name) (x y : A) → ◌≡◌ {A = Option (Name × A)} (Some (a, x)) (Some (b, y)) → a ≡ b
same_first {A} a b x y e = grind arith

-- ---- names of the runtime

abbrev is_reserved : Name → Bool
is_reserved name = is_outside name && not (is_symbol name)

reserved_in : (entries : List (Name × tree.FuncType)) → list_all (λ e. is_reserved e.0) entries ≡ true → (name : Name)
    → is_some (named name entries) ≡ true → is_reserved name ≡ true
reserved_in [] all name is = absurd (false≢true is)
reserved_in (e ∷ entries) all name is =
    let both = and_parts (is_reserved e.0) (list_all (λ e. is_reserved e.0) entries) all in
    by_test (bytes_eq e.0 name)
    (λ same. subst (λ (n : Name). is_reserved n ≡ true) ((bytes_eq-Decides e.0 name).0 same) both.0)
    (λ differ. reserved_in entries both.1 name (rw differ at is))

pub runtime_reserved : (name : Name) → is_some (named name primitives) ≡ true → (is_outside name ≡ true) × (is_symbol name ≡ false)
runtime_reserved name is =
    let both = and_parts (is_outside name) (not (is_symbol name)) (reserved_in primitives refl name is) in
    (both.0, not-true (is_symbol name) both.1)

-- ---- names of file scope

own_inside : (name : Name) → is_own_name name ≡ true → is_outside name ≡ false
own_inside name own = ap not own

symbol_outside : (name : Name) → is_symbol name ≡ true → is_outside name ≡ true
symbol_outside name is = grind arith

pub own_not_depth : (name : Name) → is_own_name name ≡ true → bytes_eq name depth_name ≡ false
own_not_depth name own = by_test (bytes_eq name depth_name)
    (λ same. absurd (false≢true (subst (λ (n : Name). is_own_name n ≡ true) ((bytes_eq-Decides name depth_name).0 same) own)))
    (λ differ. differ)

module _ (items : List tree.Item) (keeps : KeepsRules items) where
  -- a function's name is seen outside exactly where it is not static
  pub func_seen : (k : ℕ) (f : tree.Func) → slice_get items k ≡ Some (tree.Function f) → is_outside f.name ≡ not f.is_static
  func_seen k f at = grind (arith, free_names items keeps k (tree.Function f) at, own_inside, symbol_outside)

  -- a function of the unit is none of the runtime
  pub func_not_runtime : (k : ℕ) (f : tree.Func) → slice_get items k ≡ Some (tree.Function f) → named f.name primitives ≡ None
  func_not_runtime k f at = by_option (named f.name primitives) (λ none. none) (λ ty there. absurd (clash ty there))
    where
      clash : (ty : tree.FuncType) → named f.name primitives ≡ Some ty → ⊥
      clash ty there = search (arith, runtime_reserved f.name (ap is_some there), free_names items keeps k (tree.Function f) at, own_inside)

  pub variable_free : (k : ℕ) (item : tree.Item) (name : Name) (t : CType) → slice_get items k ≡ Some item
      → variable_of item ≡ Some (name, t)
      → is_own_name name ≡ true
  variable_free k (tree.Var ty n number) name t at e =
      subst (λ (x : Name). is_own_name x ≡ true) (same_first n name ty t e) (free_names items keeps k (tree.Var ty n number) at).0
  variable_free k _ name t at e = absurd cc

  -- the name of a function that some place declares
  pub func_declared : (n : ℕ) (name : Name) (ty : tree.FuncType) → named name (filter_map function_of (take n items)) ≡ Some ty
      → (k : ℕ) × (f : tree.Func) × (slice_get items k ≡ Some (tree.Function f)) × (f.name ≡ name)
  func_declared n name ty e = grind (arith, named_from function_of (take n items) name ty e, take n items, take_keeps, same_first)

  declared_any : (name : Name) (xs : List tree.Item) (k : ℕ) (f : tree.Func) → slice_get xs k ≡ Some (tree.Function f) → f.name ≡ name
      → list_any (declares name) xs ≡ true
  declared_any name [] k f at same = absurd cc
  declared_any name (x ∷ xs) zero f at same =
      let here : x ≡ tree.Function f = cc in
      let is : declares name x ≡ true = ap (declares name) here ∙ (bytes_eq-Decides f.name name).1 same in
      rw is refl
  declared_any name (x ∷ xs) (suc k) f at same = by_test (declares name x)
      (λ is. rw is refl)
      (λ is. rw is (declared_any name xs k f at same))

  -- ---- text

  module _ (p : Program) (u : ℕ) (at_u : slice_get p.units u ≡ Some items) where
    abbrev ρ : Renaming
    ρ = merge_names p

    may_name_it : (name : Name) → may_be_named name (Some items) ≡ true → may_name p u name ≡ true
    may_name_it name is = ap (may_be_named name) at_u ∙ is

    known_named : (n : ℕ) (name : Name) → is_some (named name (filter_map function_of (take n items) ++ primitives)) ≡ true
        → may_name p u name ≡ true
    known_named n name is = may_name_it name (by_option (named name (filter_map function_of (take n items)))
        (λ none.
        let runtime : is_some (named name primitives)
        ≡ true = ap is_some (sym (behind (filter_map function_of (take n items)) none)) ∙ is in
        rw runtime refl)
        (λ ty there.
        let d = func_declared n name ty there in
        let any = declared_any name items d.0 d.1 d.2 d.3 in
        rw any (or-true (is_some (named name primitives)))))
      where
        behind : (xs : List (Name × tree.FuncType)) → named name xs ≡ None → named name (xs ++ primitives) ≡ named name primitives
        behind [] none = refl
        behind (x ∷ xs) none = by_test (bytes_eq x.0 name)
            (λ is. absurd (let f = rw is at none in cc))
            (λ is. rw is (behind xs (rw is at none)))

    module _ (k : ℕ) (f : tree.Func) (b : tree.Body) (at : slice_get items k ≡ Some (tree.Function f)) (is : f.body ≡ Some b) where
      abbrev s : Scope
      s = record { declared = take (k + 1) items; func = f; body = b }

      free : (n : Name) (t : CType) → named n (file_variables s) ≡ Some t → bytes_eq n depth_name ≡ false
      free n t there =
          let from = named_from variable_of (take (k + 1) items) n t there in
          own_not_depth n (variable_free from.0 from.1 n t (take_keeps (k + 1) items from.0 from.1 from.2) from.3)

      uses_kept : (uses : List Use) → list_all (is_known s) uses ≡ true → AllByRecursion (KeptUse ρ u) uses
      uses_kept [] known = tt
      uses_kept (AsVariable n ∷ uses) known =
          (tt, uses_kept uses (and_parts (is_known s (AsVariable n)) (list_all (is_known s) uses) known).1)
      uses_kept (AsArray n ∷ uses) known = (tt, uses_kept uses (and_parts (is_known s (AsArray n)) (list_all (is_known s) uses) known).1)
      uses_kept (AsFunction n ∷ uses) known =
          let both = and_parts (is_known s (AsFunction n)) (list_all (is_known s) uses) known in
          (known_named (k + 1) n both.0, uses_kept uses both.1)

      body_text : Each (KeptStmt ρ u) b.stmts
      body_text = each_from (KeptStmt ρ u) b.stmts (λ j stmt here.
          let h = stmt_kept items keeps k f b at is j stmt here in
          kept_stmt ρ u s free stmt (uses_kept (stmt_uses stmt) h.known) h.known
          (sym (ap (λ c. not c || stmt_suits s stmt) h.known) ∙ h.suits))

    item_text : (k : ℕ) (item : tree.Item) → slice_get items k ≡ Some item → KeptItem ρ u (λ x. true) item
    item_text k (tree.Array n count bytes) at = own_not_depth n (free_names items keeps k (tree.Array n count bytes) at).0
    item_text k (tree.Var ty n number) at = own_not_depth n (free_names items keeps k (tree.Var ty n number) at).0
    item_text k (tree.Function f) at = go f.body refl
      where
        go : (o : Option tree.Body) → f.body ≡ o → KeptBody ρ u (λ x. true) true o
        go None is = tt
        go (Some b) is = body_text k f b at is

    pub unit_text : Each (KeptItem ρ u (λ x. true)) items
    unit_text = each_from (KeptItem ρ u (λ x. true)) items item_text

  item_seen : (k : ℕ) (item : tree.Item) → slice_get items k ≡ Some item → KeepsSeen is_outside item
  item_seen k (tree.Function f) at = λ there. func_seen k f at
  item_seen k _ at = tt

  pub unit_seen : Each (KeepsSeen is_outside) items
  unit_seen = each_from (KeepsSeen is_outside) items item_seen

  -- ---- what the unit defines

  -- a function that is seen outside is defined for all
  pub external_there : (k : ℕ) (f : tree.Func) (b : tree.Body) → slice_get items k ≡ Some (tree.Function f) → f.body ≡ Some b
      → is_outside f.name ≡ true
      → is_some (defined_for_all items f.name) ≡ true
  external_there k f b at is outside =
      let listed = is_listed items k f b at is in
      let shown : f.is_static ≡ false = not-true f.is_static (sym (func_seen k f at) ∙ outside) in
      let passes : (not f.is_static && bytes_eq f.name f.name) ≡ true = rw (shown, (bytes_eq-Decides f.name f.name).1 refl) refl in
      let found = first_there (λ d. is_external d && bytes_eq d.func.name f.name) (definitions items) listed.0
      (record { item = k; func = f; body = b }) listed.1 passes in
      ap is_some found.1

-- ---- units that fit together

module _ (p : Program) (are : FitTogether p.units) where
  -- a function that is seen outside, which a unit defines
  pub record Defines (u : ℕ) (x : Name) : Type 0 where
    pub items : List tree.Item
    pub there : slice_get p.units u ≡ Some items
    pub item : ℕ
    pub func : tree.Func
    pub body : tree.Body
    pub at : slice_get items item ≡ Some (tree.Function func)
    pub body_is : func.body ≡ Some body
    pub name_is : func.name ≡ x

  defines_at : (u : ℕ) (x : Name) → is_some (definition_at p u x) ≡ true → Defines u x
  defines_at u x is = by_option (slice_get p.units u)
      (λ none. absurd (false≢true (sym (ap (λ o. is_some (if_found o (λ items. defined items x))) none) ∙ is)))
      (λ items there.
      let found : is_some (defined items x) ≡ true = sym (ap (λ o. is_some (if_found o (λ items. defined items x))) there) ∙ is in
      by_option (defined items x)
      (λ none. absurd (false≢true (rw none at found)))
      (λ d e.
      let names = defined_names items x d e in
      record {
        items = items;
        there = there;
        item = d.item;
        func = d.func;
        body = d.body;
        at = names.is.at;
        body_is = names.is.body;
        name_is = names.name_is;
      }))

  shows : (u : ℕ) (x : Name) → is_outside x ≡ true → (d : Defines u x) → Shows p.units u d.func
  shows u x outside d = record {
    items = d.items;
    there = d.there;
    item = d.item;
    at = d.at;
    shown = not-true d.func.is_static (sym (func_seen d.items (are.kept u d.items d.there) d.item d.func d.at)
        ∙ ap is_outside d.name_is ∙ outside);
  }

  not_two : (u v : ℕ) (x : Name) → u < v → is_outside x ≡ true → Defines u x → Defines v x → ⊥
  not_two u v x less outside a b =
      are.once u v less a.func b.func (shows u x outside a) (shows v x outside b) (ap is_some a.body_is) (ap is_some b.body_is)
      (a.name_is ∙ sym b.name_is)

  -- a function that is seen outside is defined by one unit at most
  pub defined_once : (u v : ℕ) (x : Name) → v ≢ u → is_outside x ≡ true → Defines u x → Defines v x → ⊥
  defined_once u v x differ outside a b = elim (cases_order u v) [
    | inl equal ↦ differ (sym equal)
    | inr (inl less) ↦ not_two u v x less outside a b
    | inr (inr more) ↦ not_two v u x more outside b a
  ]

  item_once : (u v : ℕ) → v ≢ u → (items : List tree.Item) → slice_get p.units v ≡ Some items → (k : ℕ) (item : tree.Item)
      → slice_get items k ≡ Some item
      → IsDefinedOnce (merge_names p) is_outside u item
  item_once u v differ items there k (tree.Function f) at = λ x defines body outside. by_test (bytes_eq f.name x)
      (λ same. absurd (clash x ((bytes_eq-Decides f.name x).0 same) defines body outside))
      (λ other. other)
    where
      clash : (x : Name) → f.name ≡ x → is_some (definition_at p u x) ≡ true → is_some f.body ≡ true → is_outside f.name ≡ true → ⊥
      clash x same defines body outside = by_option f.body
          (λ none. false≢true (rw none at body))
          (λ b is. defined_once u v x differ (sym (ap is_outside same) ∙ outside) (defines_at u x defines)
          (record { items = items; there = there; item = k; func = f; body = b; at = at; body_is = is; name_is = same }))
  item_once u v differ items there k _ at = tt

  -- ---- names in text

  abbrev Declared : List tree.Item → Name → Type 0
  Declared items name = (k : ℕ) × (f : tree.Func) × (slice_get items k ≡ Some (tree.Function f)) × (f.name ≡ name)

  declared_from : (name : Name) (items : List tree.Item) → list_any (declares name) items ≡ true → Declared items name
  declared_from name items e = grind (arith, any_from (declares name) items e, bytes_eq-Decides)

  used : (u : ℕ) (x : Name) → may_name p u x ≡ true → MayUse p is_outside u x
  used u x is = by_option (slice_get p.units u)
      (λ none. absurd (false≢true (rw none at is)))
      (λ items there.
      let named_so : may_be_named x (Some items) ≡ true = sym (ap (may_be_named x) there) ∙ is in
      elim (or_cases (is_some (named x primitives)) (list_any (declares x) items) named_so) [
        | inl runtime ↦ by_option (definition_at p u x)
            (λ none. Foreign (ap is_some there) none (runtime_reserved x runtime).0)
            (λ d e. Own (ap is_some e))
        | inr declared ↦
            let d = declared_from x items declared in
            of_func items there d.0 d.1 d.2 d.3
      ])
    where
      of_func : (items : List tree.Item) → slice_get p.units u ≡ Some items → (k : ℕ) (f : tree.Func)
          → slice_get items k ≡ Some (tree.Function f) → f.name ≡ x
          → MayUse p is_outside u x
      of_func items there k f at same =
          let keeps : KeepsRules items = are.kept u items there in
          by_test f.is_static
          (λ static.
          let d = static_defined items keeps k f at static in
          let here : definition_at p u x ≡ Some d.0 = ap (λ o. if_found o (λ items. defined items x)) there
          ∙ subst (λ (n : Name). defined items n ≡ Some d.0) same d.1 in
          Own (ap is_some here))
          (λ shown.
          let outside : is_outside x ≡ true = sym (ap is_outside same) ∙ func_seen items keeps k f at ∙ ap not shown in
          by_option (definition_at p u x)
          (λ none. Foreign (ap is_some there) none outside)
          (λ d e. Own (ap is_some e)))

  pub units_may_merge : MayMerge p name_in is_outside (may_name p)
  units_may_merge = record {
    tells = new_names;
    not_seen = λ u x. refl;
    primitives = primitives_outside;
    seen = λ u items there. unit_seen items (are.kept u items there);
    used = used;
    text = λ u items there. unit_text items (are.kept u items there) p u there;
    once = λ u v differ items there. each_from (IsDefinedOnce (merge_names p) is_outside u) items (item_once u v differ items there);
  }
