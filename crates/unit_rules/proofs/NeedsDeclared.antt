-- What a module's functions need is declared up to each that stands behind the first sections of the unit.
use Rattle.unit_rules.proofs.Common.{imported_global_is, imported_memory_is, imported_table_is, slice_get_within, declared_symbols, is_some}
use Rattle.unit_rules.proofs.Common.{func_types_same, AllByRecursion, func_of_import, imported_funcs, is_func_import, false}
use Rattle.unit_rules.proofs.Common.{same_func_type, c_func_type_if, if◌then◌else◌, import_symbol, declared_type, contains_kept, filter_map}
use Rattle.unit_rules.proofs.Common.{own_memory_is, get_unmapped, of_contained, SegmentEntry, calls_helper, func_imports, all_unmapped, ◌≡◌}
use Rattle.unit_rules.proofs.Common.{own_table_is, declarations, NamedModule, c_result_of, c_func_type, import_type, flat_map}
use Rattle.unit_rules.proofs.Common.{symbol_type, made_static, helper_type, declaration, numbered_at, all_behind, get_mapped, func_count, ℕ}
use Rattle.unit_rules.proofs.Common.{func_space, helpers_of, IsAccepted, own_global, prototypes, slice_get, all_front, get_front, BodyEntry}
use Rattle.unit_rules.proofs.Common.{FuncEntry, func_name, helper_of, is_usable, params_of, FileKnows, data_name, prototype, data_item}
use Rattle.unit_rules.proofs.Common.{some_same, list_any, at_index, numbered, FuncType, array_of, is_among, funcs_in, there_in, get_late}
use Rattle.unit_rules.proofs.Common.{get_past, type_in, HELPERS, body_of, vars_in, data_of, in_vars, helpers, objects, length, Option, Bool}
use Rattle.unit_rules.proofs.Common.{all_at, Import, Module, any_in, Helper, callee, firsts, listed, bodies, BodyAt, subst, arith, named}
use Rattle.unit_rules.proofs.Common.{CType, true, List, ◌++◌, Some, None, refl, Name, ◌-◌, ◌<◌, ◌≤◌, ◌∷◌, map, sym, ◌∙◌, [], ap, at}
use Rattle.c_tree.specs.Tree as tree
use Rattle.unit_rules.proofs.EachItem.{all_unflat}
use Rattle.unit_rules.proofs.Clashes.{IsFound, all_found}
use Rattle.unit_rules.proofs.KnownFuncs.{among_contained, get_range, declared_typed, firsts_have, imported_func, kept_among, param_types}
use Rattle.unit_rules.proofs.KnownFuncs.{without_names}
use Rattle.unit_rules.proofs.RuntimeNames.{not_named}
use Rattle.unit_rules.proofs.WholeUnit.{IsDeclared, body_here, known}

-- the type of an import that may be used
usable_type : (m : NamedModule) (i : Import) (o : Option tree.FuncType)
    → (elim o [ None ↦ false | Some u ↦ same_func_type u (import_type m.tree i) ]) ≡ true → declared_type o ≡ import_type m.tree i
usable_type m i None e = absurd cc
usable_type m i (Some u) e = func_types_same u (import_type m.tree i) e

module _ (m : NamedModule) (a : IsAccepted m) (declared : List tree.Item) (d : IsDeclared m declared) where
  abbrev t : Module
  t = m.tree

  pub object_known : (q : Name) (ty : CType) → named q (vars_in (objects m)) ≡ Some ty → named q (vars_in declared) ≡ Some ty
  object_known q ty e = subst (λ items. named q (vars_in items) ≡ Some ty) (sym d.is)
      (in_vars q (known m) d.rest ty (in_vars q (objects m) _ ty e))

  -- what stands behind the objects
  found : AllByRecursion (IsFound declared) (data_of t ++ (declarations m ++ (prototypes m ++ helpers m)))
  found = all_behind (IsFound declared) (objects m) _ (all_front (IsFound declared) (known m) d.rest
      (subst (AllByRecursion (IsFound declared)) d.is (all_found declared d.apart)))

  pub array_known : (j : ℕ) (d : SegmentEntry) → slice_get t.segments j ≡ Some d → (b : ℕ) (bytes : List ℕ) → d.bytes ≡ b ∷ bytes
      → is_among (data_name j) (filter_map array_of declared) ≡ true
  array_known j d at b bytes e =
      let here = all_at (λ d. AllByRecursion (IsFound declared) (data_item d)) (numbered t.segments) j (j, d)
      (all_unflat (IsFound declared) data_item (numbered t.segments) (all_front (IsFound declared) (data_of t) _ found))
      (numbered_at t.segments j d at) in
      (subst (λ bs. AllByRecursion (IsFound declared)
      (elim bs [ [] ↦ [] | b ∷ bytes ↦ tree.Array (data_name j) (length d.bytes) d.bytes ∷ [] ])) e here).0

  functions_found : AllByRecursion (IsFound declared) (declarations m ++ (prototypes m ++ helpers m))
  functions_found = all_behind (IsFound declared) (data_of t) _ found

  own_found : AllByRecursion (IsFound declared) (prototypes m ++ helpers m)
  own_found = all_behind (IsFound declared) (declarations m) _ functions_found

  helper_known : (which : Helper) → list_any (λ (b : BodyEntry). any_in (calls_helper which) b.code) t.bodies ≡ true
      → named (helper_of which).name (funcs_in declared) ≡ Some (helper_type which)
  helper_known which e =
      let at = listed which in
      of_contained (λ w. IsFound declared (tree.Function (helper_of w))) (helpers_of t) which
      (all_unmapped (IsFound declared) (λ w. tree.Function (helper_of w)) (helpers_of t)
      (all_behind (IsFound declared) (prototypes m) (helpers m) own_found))
      (contains_kept (λ w. list_any (λ (b : BodyEntry). any_in (calls_helper w) b.code) t.bodies) HELPERS at.0 which at.1 e)
      ∙ ap Some (made_static which (helper_of which) refl).typed

  -- each symbol of an import
  pub symbol_known : (q : Name) → is_among q (map import_symbol t.imports) ≡ true
      → named q (funcs_in declared) ≡ Some (declared_type (symbol_type m q))
  symbol_known q e =
      of_contained (λ n. IsFound declared (declaration (n, declared_type (symbol_type m n)))) (firsts [] (map import_symbol t.imports)) q
      (all_unmapped (λ s. IsFound declared (declaration s)) (λ n. (n, declared_type (symbol_type m n))) _
      (all_unmapped (IsFound declared) declaration (declared_symbols m)
      (all_front (IsFound declared) (declarations m) _ functions_found)))
      (among_contained q _ (firsts_have q [] (map import_symbol t.imports) e refl))
      ∙ ap Some (declared_typed (q, declared_type (symbol_type m q)))

  pub import_known : (i : Import) → is_among (import_symbol i) (map import_symbol t.imports) ≡ true → is_usable m i ≡ true
      → named (import_symbol i) (funcs_in declared) ≡ Some (import_type t i)
  import_known i there usable = symbol_known (import_symbol i) there ∙ ap Some (usable_type m i (symbol_type m (import_symbol i)) usable)

  own_named : (k : ℕ) (b : BodyAt m k) → imported_funcs t ≤ k → k - imported_funcs t < length t.funcs
      → named (func_name k) (funcs_in declared) ≡ Some (c_func_type b.ty)
  own_named k b late low =
      let place = get_range (body_of t m.name) (imported_funcs t) (length t.funcs) k late (omega (arith, late, low)) in
      let found = all_at (IsFound declared) (prototypes m) place.0 (prototype (body_of t m.name k))
      (all_front (IsFound declared) (prototypes m) (helpers m) own_found) (get_mapped prototype (bodies m) place.0 _ place.1) in
      subst (λ ps. named (func_name k) (funcs_in declared) ≡ Some (record { params = ps; result = c_result_of b.ty.result }))
      (without_names (params_of b.ty.params) ∙ param_types b.ty.params)
      (subst (λ (f : tree.Func). IsFound declared (prototype f)) b.is found)

  own_callee : (k : ℕ) (ty : FuncType) → at_index (map (type_in t) (func_space t)) k ≡ Some ty
      → is_some (slice_get (func_imports t) k) ≡ false → named (func_name k) (funcs_in declared) ≡ Some (c_func_type ty)
  own_callee k ty e i =
      let imp = imported_funcs t in
      let counted = func_count t.imports in
      let late : imp ≤ k = (get_past (func_imports t) [] k i).1 in
      let x = get_unmapped (type_in t) (func_space t) k (Some ty) (there_in (slice_get (map (type_in t) (func_space t)) k) ty e) in
      let f = get_unmapped (λ (f : FuncEntry). f.type_index) t.funcs (k - length (flat_map func_of_import t.imports)) x.0
      (sym (get_late (flat_map func_of_import t.imports) (map (λ (f : FuncEntry). f.type_index) t.funcs) k
      (omega (arith, late, counted))) ∙ x.1) in
      let j : k - imp ≡ k - length (flat_map func_of_import t.imports) = omega (arith, counted) in
      let low : k - imp < length t.funcs = subst (λ n. n < length t.funcs) (sym j) (slice_get_within t.funcs _ f.0 f.1) in
      let b : BodyAt m k = body_here m a k late (omega (arith, late, low)) in
      let same_func : b.func ≡ f.0 = some_same (sym b.func_is ∙ (ap (slice_get t.funcs) j ∙ f.1)) in
      let same_type : b.ty ≡ ty = some_same (sym b.type_is ∙
      (ap (λ (g : FuncEntry). type_in t g.type_index) same_func ∙ (ap (type_in t) f.2 ∙ x.2))) in
      subst (λ (ty : FuncType). named (func_name k) (funcs_in declared) ≡ Some (c_func_type ty)) same_type (own_named k b late low)

  imported_callee : (k : ℕ) (ty : FuncType) (i : Import) → at_index (map (type_in t) (func_space t)) k ≡ Some ty
      → slice_get (func_imports t) k ≡ Some i → is_usable m i ≡ true → named (import_symbol i) (funcs_in declared) ≡ Some (c_func_type ty)
  imported_callee k ty i e at usable =
      let found = imported_func t.imports k i at in
      let x = get_unmapped (type_in t) (func_space t) k (Some ty) (there_in (slice_get (map (type_in t) (func_space t)) k) ty e) in
      let same_index : x.0 ≡ found.0 = some_same (sym x.1 ∙ get_front (flat_map func_of_import t.imports) _ k found.0 found.1) in
      import_known i (kept_among import_symbol is_func_import t.imports k i at).0 usable
      ∙ ap Some (rw (found.2, import_type) (ap c_func_type_if (ap (type_in t) (sym same_index) ∙ x.2)))

  pub callee_known : (k : ℕ) (ty : FuncType) (name : Name) → at_index (map (type_in t) (func_space t)) k ≡ Some ty → callee m k ≡ Some name
      → named name (funcs_in declared) ≡ Some (c_func_type ty)
  callee_known k ty name e f = by (slice_get (func_imports t) k) refl f
    where
      by : (o : Option Import) → slice_get (func_imports t) k ≡ o
          → (elim o [ None ↦ Some (func_name k) | Some i ↦ if is_usable m i then Some (import_symbol i) else None ]) ≡ Some name
          → named name (funcs_in declared) ≡ Some (c_func_type ty)
      by None g h = subst (λ n. named n (funcs_in declared) ≡ Some (c_func_type ty)) (some_same h) (own_callee k ty e (ap is_some g))
      by (Some i) g h = usable (is_usable m i) refl h
        where
          usable : (b : Bool) → is_usable m i ≡ b → (if b then Some (import_symbol i) else None) ≡ Some name
              → named name (funcs_in declared) ≡ Some (c_func_type ty)
          usable true u h = subst (λ n. named n (funcs_in declared) ≡ Some (c_func_type ty)) (some_same h) (imported_callee k ty i e g u)
          usable false u h = absurd cc

  pub file_knows : FileKnows m declared
  file_knows = record {
    own_globals = λ k g e i. object_known _ _ (own_global m a k g e i);
    imported_globals = λ k g e i. object_known _ _ (imported_global_is m a k g e i);
    own_memory = λ ty body has i. object_known _ _ (own_memory_is m a has i);
    imported_memory = λ i. object_known _ _ (imported_memory_is m a i);
    own_table = λ ty body has i. object_known _ _ (own_table_is m a has i);
    imported_table = λ i. object_known _ _ (imported_table_is m a i);
    callees = callee_known;
    helpers = helper_known;
    no_runtime = λ name r. not_named name declared r d.no_runtime;
  }
