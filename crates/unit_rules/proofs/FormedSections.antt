-- Each section of a module's unit has names that are words of C, and is well formed up to the parts of the init function.
use Rattle.unit_rules.proofs.Common.{params_listed, ◌≡◌, ℕ, suc, ◌+◌, ◌^◌, ◌<◌, ◌≤◌, Bool, true, false, List, [], ◌∷◌, map, length, is_none}
use Rattle.unit_rules.proofs.Common.{if◌then◌else◌, slice_get, Some, None, Option, option_map, flat_map, sym, refl, ap, ◌∙◌, subst, arith}
use Rattle.unit_rules.proofs.Common.{length-append, length-map, slice_get_within, AllByRecursion, all_weaker, get_unmapped, all_at, all_map}
use Rattle.unit_rules.proofs.Common.{all_from, at, of_contained, numbered, FuncType, func_count, func_of_import, func_space, func_type_in}
use Rattle.unit_rules.proofs.Common.{Name, is_func_import, NamedModule, Export, Import, SegmentEntry, TypeEntry, Module, unknown_export}
use Rattle.unit_rules.proofs.Common.{is_among, func_name, zero_number, proper_types, name_of, FitsArg, FitsItem, FitsNum, FitsStmt, IsName}
use Rattle.unit_rules.proofs.Common.{depth_limit, IsNamedIfAny, NamedArg, NamedItem, NamedStmt, CType, helper_of, helpers_of, callee, items}
use Rattle.unit_rules.proofs.Common.{firsts, accessor_type, c_func_type_if, export_symbol, func_imports, import_symbol, is_usable, accessor}
use Rattle.unit_rules.proofs.Common.{symbol_type, params_of, NamedItems, args_from, call_if, export_func, external, named_params, passes_on}
use Rattle.unit_rules.proofs.Common.{param_name, params_from, result_name, usable_symbol, data_name, bodies, data_of, prototype, IsAccepted}
use Rattle.unit_rules.proofs.Common.{declared_type, params_there, BodiesAreFormed, few_parts, all_images, there_is, part_func, parts_of}
use Rattle.unit_rules.proofs.Common.{part_name, accepted_limits, few_found, few_params, firsts_all, declarations, exports, functions_of}
use Rattle.unit_rules.proofs.Common.{helpers, objects, prototypes, export_name, few_funcs}
use Rattle.c_tree.specs.declared.tree.CType.TheVariants as type
use Rattle.c_tree.specs.Tree as tree
use Rattle.c_tree.proofs.Names.{numbered as numbered_name}
use Rattle.unit_rules.proofs.EachItem.{IsObject, each_data, each_declared, each_numbered, each_object, global_pointer, memory_pointer}
use Rattle.unit_rules.proofs.EachItem.{own_global, own_memory, own_table, table_pointer}
use Rattle.unit_rules.proofs.ExportFacts.{each_of}
use Rattle.unit_rules.proofs.ExportGiven.{each_export, few_types, valid_exports}
use Rattle.unit_rules.proofs.KnownFuncs.{among_contained, kept_among}
use Rattle.unit_rules.proofs.NeedsDeclared.{file_knows}
use Rattle.unit_rules.proofs.SymbolTypes.{symbol_has}
use Rattle.unit_rules.proofs.UnitNames.{data_named, export_named, func_named, global_named, helper_formed, import_named, init_named}
use Rattle.unit_rules.proofs.UnitNames.{part_named, pointer_named}
use Rattle.unit_rules.proofs.WholeUnit.{all_bodies, all_declared, all_items, all_known, body_here, typed_body}

abbrev pub IsFormed : tree.Item → Type 0
IsFormed o = NamedItem o × FitsItem depth_limit o

-- ---- lists of parameters are not empty

abbrev HasParams : tree.FuncType → Type 0
HasParams ty = 0 < length ty.params

func_has : (o : Option FuncType) → HasParams (c_func_type_if o)
func_has None = omega arith
func_has (Some ty) = params_there ty.params

mapped_has : {A B : Type 0} (f : A → B) (xs : List A) → 0 < length xs → 0 < length (map f xs)
mapped_has f [] h = h
mapped_has f (x ∷ xs) h = omega arith

-- ---- functions that pass a call on

param_named : (k : ℕ) → k < 2 ^ 64 → IsName (param_name k)
param_named k less = numbered_name 97 k refl (λ e. absurd (grind (arith, e))) (λ e. absurd (grind (arith, e))) less

params_named : (k : ℕ) (types : List CType) → k + length types ≤ 2 ^ 64
    → AllByRecursion (λ (p : tree.Param). IsNamedIfAny p.1) (params_from k types)
params_named k [] few = tt
params_named k (x ∷ types) few = (param_named k (omega (arith, few)), params_named (suc k) types (omega (arith, few)))

named_params_are : (types : List CType) → length types ≤ 2 ^ 64 → AllByRecursion (λ (p : tree.Param). IsNamedIfAny p.1) (named_params types)
named_params_are [] few = (tt, tt)
named_params_are (x ∷ types) few = params_named 0 (x ∷ types) (omega (arith, few))

named_params_there : (types : List CType) → 0 < length (named_params types)
named_params_there [] = omega arith
named_params_there (x ∷ types) = omega arith

args_named : (k : ℕ) (types : List CType) → k + length types ≤ 2 ^ 64 → AllByRecursion NamedArg (args_from k types)
args_named k [] few = tt
args_named k (x ∷ types) few = (param_named k (omega (arith, few)), args_named (suc k) types (omega (arith, few)))

args_fit : (d k : ℕ) (types : List CType) → AllByRecursion (FitsArg (suc d)) (args_from k types)
args_fit d k [] = tt
args_fit d k (x ∷ types) = (tt, args_fit d (suc k) types)

call_formed : (o target : Option Name) (types : List CType) → length types ≤ 2 ^ 64 → IsNamedIfAny o → IsNamedIfAny target
    → NamedStmt (call_if o target types) × FitsStmt depth_limit (call_if o target types)
call_formed None target types few name result = (tt, tt)
call_formed (Some n) None types few name result = ((result, name, args_named 0 types (omega (arith, few))), (tt, args_fit 99 0 types))
call_formed (Some n) (Some r) types few name result = ((result, name, args_named 0 types (omega (arith, few))), (tt, args_fit 98 0 types))

value_fits : (r : CType) → FitsNum (zero_number r)
value_fits type.U32 = omega arith
value_fits type.U64 = omega arith
value_fits _ = omega arith

passes_formed : (ty : tree.FuncType) (symbol : Name) (o : Option Name) → length (proper_types ty.params) ≤ 2 ^ 64 → IsName symbol
    → IsNamedIfAny o → IsFormed (tree.Function (passes_on ty symbol o))
passes_formed ty symbol o few name known = by ty.result
  where
    value : (r : CType) → IsFormed (tree.Function
        (external (record { params = ty.params; result = r }) symbol ((r, result_name, zero_number r) ∷ [])
        (call_if o (Some result_name) (proper_types ty.params) ∷ tree.Return (tree.Value (tree.Name result_name)) ∷ [])))
    value r =
        let call = call_formed o (Some result_name) (proper_types ty.params) few known refl in (
          (name, named_params_are (proper_types ty.params) few, ((refl, tt), (call.0, (refl, tt)))),
          (named_params_there (proper_types ty.params), ((value_fits r, tt), (call.1, (tt, tt)))),
        )

    by : (r : CType) → IsFormed (tree.Function (passes_on (record { params = ty.params; result = r }) symbol o))
    by type.Void =
        let call = call_formed o None (proper_types ty.params) few known tt in (
          (name, named_params_are (proper_types ty.params) few, (tt, (call.0, (tt, tt)))),
          (named_params_there (proper_types ty.params), (tt, (call.1, (tt, tt)))),
        )
    by r = value r

accessor_formed : (m : NamedModule) (pointer : CType) (symbol : Name) (o : Option Import) (object : Name) → IsName symbol → IsName object
    → ((i : Import) → o ≡ Some i → IsName (import_symbol i)) → IsFormed (tree.Function (accessor m (accessor_type pointer) symbol o object))
accessor_formed m pointer symbol None object name own imported = ((name, (tt, tt), (tt, (own, tt))), (omega arith, (tt, (tt, tt))))
accessor_formed m pointer symbol (Some i) object name own imported =
    passes_formed (accessor_type pointer) symbol (usable_symbol m i) (omega arith) name (by (is_usable m i))
  where
    by : (b : Bool) → IsNamedIfAny (if b then Some (import_symbol i) else None)
    by true = imported i refl
    by false = tt

-- ---- names

object_named : (ty : CType) (name : Name) → IsObject ty name → IsName name
object_named _ _ own_table = refl
object_named _ _ own_memory = refl
object_named _ _ (own_global ty k less) = global_named k less
object_named _ _ table_pointer = refl
object_named _ _ memory_pointer = refl
object_named _ _ (global_pointer ty k less) = pointer_named k less

module _ (m : NamedModule) (a : IsAccepted m) where
  abbrev t : Module
  t = m.tree

  abbrev Named : tree.Item → Type 0
  Named o = IsName (name_of o)

  import_names : AllByRecursion IsName (map import_symbol t.imports)
  import_names = all_map IsName import_symbol t.imports
      (all_weaker _ (λ i. IsName (import_symbol i)) t.imports (λ i h. import_named i h.0 h.1) (accepted_limits a).import_names)

  symbols_named : AllByRecursion IsName (firsts [] (map import_symbol t.imports))
  symbols_named = firsts_all IsName [] (map import_symbol t.imports) import_names

  segment_named : (j : ℕ) (d : SegmentEntry) → slice_get t.segments j ≡ Some d → IsName (data_name j)
  segment_named j d at = data_named j (omega (arith, slice_get_within t.segments j d at, (accepted_limits a).segments))

  bodies_named : AllByRecursion (λ (f : tree.Func). IsName f.name) (bodies m)
  bodies_named = all_bodies m a (λ f. IsName f.name) (λ k low high. subst (λ (f : tree.Func). IsName f.name)
      (sym (body_here m a k low high).is) (func_named k (omega (arith, high, few_funcs m a))))

  export_is_named : (i : ℕ) (e : Export) → slice_get t.exports i ≡ Some e → IsName (export_symbol m e)
  export_is_named i e at = export_named m e (each_of (λ b. b < 256) m.name a.bytes)
      (all_at (λ (e : Export). AllByRecursion (λ b. b < 256) e.name) t.exports i e (accepted_limits a).export_names at)

  pub unit_named : NamedItems (items m)
  unit_named =
      all_items Named m
      (all_known Named m (each_object m a Named object_named) (each_data m a Named (λ j d at b bytes e. segment_named j d at))
      (each_declared m a Named IsName symbols_named (λ n h. h))
      (all_map Named prototype (bodies m) bodies_named)
      (all_images Named (λ which. tree.Function (helper_of which)) (helpers_of t) (λ which. (helper_formed which).0.0)))
      (all_map Named tree.Function (bodies m) bodies_named)
      (all_map Named (λ e. tree.Function (export_func m e)) t.exports (all_from _ t.exports
      (λ i e at. subst IsName (sym (export_name m e)) (export_is_named i e at))))
      (all_map Named (λ p. tree.Function (part_func t p)) (numbered (parts_of t)) (each_numbered (λ p. IsName (part_name p.0)) (parts_of t)
      (λ j x at. let few = few_parts t a.within in let less = slice_get_within (parts_of t) j x at in
      part_named j (omega (arith, less, few)))))
      (init_named m.name (each_of (λ b. b < 256) m.name a.bytes), tt)

  -- ---- sections

  pub objects_formed : AllByRecursion IsFormed (objects m)
  objects_formed = each_object m a IsFormed (λ ty name is. (object_named ty name is, tt))

  pub data_formed : AllByRecursion IsFormed (data_of t)
  data_formed = each_data m a IsFormed (λ j d at b bytes e. (
    segment_named j d at,
    (
      all_at (λ (d : SegmentEntry). length d.bytes < 2 ^ 32) t.segments j d (accepted_limits a).bytes at,
      subst (λ bs. 0 < length bs) (sym e) (omega arith),
      all_at (λ (d : SegmentEntry). AllByRecursion (λ b. b < 256) d.bytes) t.segments j d (accepted_limits a).are_bytes at,
    ),
  ))

  pub declarations_formed : AllByRecursion IsFormed (declarations m)
  declarations_formed = each_declared m a IsFormed IsName symbols_named (λ n h. (
    (h, all_images (λ (p : tree.Param). IsNamedIfAny p.1) (λ t. (t, None)) (declared_type (symbol_type m n)).params (λ t. tt), tt),
    (
      mapped_has (λ t. (t, None)) (declared_type (symbol_type m n)).params
          (symbol_has m HasParams func_has (λ pointer plain. omega arith) n),
      tt,
    ),
  ))

  pub prototypes_formed : AllByRecursion IsFormed (prototypes m)
  prototypes_formed = all_map IsFormed prototype (bodies m) (all_bodies m a (λ f. IsFormed (prototype f)) (λ k low high.
      let b = body_here m a k low high in
      subst (λ (f : tree.Func). IsFormed (prototype f)) (sym b.is) (
        (
          func_named k (omega (arith, high, few_funcs m a)),
          all_images (λ (p : tree.Param). IsNamedIfAny p.1) (λ (p : tree.Param). (p.0, None)) (params_of b.ty.params) (λ p. tt),
          tt,
        ),
        (mapped_has (λ (p : tree.Param). (p.0, None)) (params_of b.ty.params) (params_listed b.ty.params), tt),
      )))

  pub helpers_formed : AllByRecursion IsFormed (helpers m)
  helpers_formed = all_images IsFormed (λ which. tree.Function (helper_of which)) (helpers_of t) helper_formed

  pub bodies_formed : BodiesAreFormed → AllByRecursion IsFormed (functions_of m)
  bodies_formed law = all_map IsFormed tree.Function (bodies m) (all_bodies m a (λ f. IsFormed (tree.Function f)) (λ k low high.
      let b = body_here m a k low high in
      subst (λ (f : tree.Func). IsFormed (tree.Function f)) (sym b.is)
      (law m k b.ty b.entry (items m) (typed_body m a k b) (λ x ty e. signatures x ty (sym e)) (file_knows m a (items m) (all_declared m a))
      unit_named (func_named k (omega (arith, high, few_funcs m a))))))
    where
      signatures : (x : ℕ) (ty : FuncType) → slice_get (map (λ (e : TypeEntry). e.ty) t.types) x ≡ Some ty → length ty.params ≤ 60
      signatures x ty e =
          let found = get_unmapped (λ (e : TypeEntry). e.ty) t.types x ty e in
          few_params t (accepted_limits a) x ty (ap (option_map (λ (e : TypeEntry). e.ty)) found.1 ∙ ap Some found.2)

  -- ---- exports

  import_is : (i : Import) → is_among (import_symbol i) (map import_symbol t.imports) ≡ true → IsName (import_symbol i)
  import_is i there = of_contained IsName (map import_symbol t.imports) (import_symbol i) import_names (among_contained _ _ there)

  callee_named : (index : ℕ) → is_none (slice_get (func_space t) index) ≡ false → IsNamedIfAny (callee m index)
  callee_named index out = by (slice_get (func_imports t) index) refl
    where
      less : index < 2 ^ 64
      less =
          let found = there_is (slice_get (func_space t) index) out in
          let there = slice_get_within (func_space t) index found.0 found.1 in
          let whole = length-append (flat_map func_of_import t.imports) (map (λ f. f.type_index) t.funcs) in
          let own = length-map t.funcs (λ f. f.type_index) in
          let counted = func_count t.imports in
          omega (arith, there, whole, own, counted, few_funcs m a)

      usable : (i : Import) (b : Bool) → IsName (import_symbol i) → IsNamedIfAny (if b then Some (import_symbol i) else None)
      usable i true name = name
      usable i false name = tt

      by : (o : Option Import) → slice_get (func_imports t) index ≡ o
          → IsNamedIfAny (elim o [ None ↦ Some (func_name index) | Some i ↦ if is_usable m i then Some (import_symbol i) else None ])
      by None e = func_named index less
      by (Some i) e = usable i (is_usable m i) (import_is i (kept_among import_symbol is_func_import t.imports index i e).0)

  pub exports_formed : AllByRecursion IsFormed (exports m)
  exports_formed = all_map IsFormed (λ e. tree.Function (export_func m e)) t.exports (all_from _ t.exports (λ i e at.
      each_export m a (λ ty f. IsFormed (tree.Function f)) IsName
      (λ k n out name. passes_formed (c_func_type_if (func_type_in t k)) n (callee m k)
      (few_types (func_type_in t k) (λ ty e. few_found t (accepted_limits a) (slice_get (func_space t) k) ty e)) name (callee_named k out))
      (λ pointer object o n g name. accessor_formed m pointer n o object name g.has_name (λ i e. import_is i (g.imported i e).0)) e
      (all_at (λ e. unknown_export t e ≡ []) t.exports i e (valid_exports m a) at) (export_is_named i e at)))
