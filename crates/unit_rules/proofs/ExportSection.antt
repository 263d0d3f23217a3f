-- The functions of exports keep the rules, since what each passes on or gives is declared before it.
use Rattle.unit_rules.proofs.Common.{◌≡◌, ℕ, Bool, true, false, not, List, [], ◌∷◌, ◌++◌, is_none, if◌then◌else◌, slice_get, Some, None, ap}
use Rattle.unit_rules.proofs.Common.{Option, sym, refl, ◌∙◌, subst, arith, AllByRecursion, all_weaker, all_map, named, func_space, Export}
use Rattle.unit_rules.proofs.Common.{func_type_in, NamedModule, Import, Module, unknown_export, is_symbol, primitives, Name, CType, callee}
use Rattle.unit_rules.proofs.Common.{accessor_type, c_func_type_if, import_symbol, is_usable, named_in, funcs_in, accessor, export_func}
use Rattle.unit_rules.proofs.Common.{passes_on, usable_symbol, IsAccepted, some_same, accepted_limits, few_found, exports}
use Rattle.unit_rules.proofs.ExportGiven.{IsGiven, each_export, few_types, valid_exports}
use Rattle.c_tree.specs.declared.tree.CType.TheVariants as type
use Rattle.c_tree.specs.Tree as tree
use Rattle.unit_definition.proofs.Sections.{of_export, symbol_is}
use Rattle.unit_rules.proofs.ExportFacts.{func_typed}
use Rattle.unit_rules.proofs.ExportRules.{IsExternal, address_is, passes_on_is}
use Rattle.unit_rules.proofs.ItemRules.{KeepsBehind, function_keeps}
use Rattle.unit_rules.proofs.NeedsDeclared.{callee_known, import_known, object_known}
use Rattle.unit_rules.proofs.PlainItems.{func_proper}
use Rattle.unit_rules.proofs.WholeUnit.{IsDeclared, declared_at, known}

module _ (m : NamedModule) (a : IsAccepted m) where
  abbrev t : Module
  t = m.tree

  module _ (declared : List tree.Item) (d : IsDeclared m declared) where
    func_is : (k : ℕ) (n : Name) → is_none (slice_get (func_space t) k) ≡ false → is_symbol n ≡ true
        → IsExternal declared (passes_on (c_func_type_if (func_type_in t k)) n (callee m k))
    func_is k n out s =
        let typed = func_typed t a.valid.no_faults k out in
        let ty : tree.FuncType = c_func_type_if (func_type_in t k) in
        passes_on_is declared ty.params ty.result n (callee m k)
        (few_types (func_type_in t k) (λ ty e. few_found t (accepted_limits a) (slice_get (func_space t) k) ty e))
        (func_proper (func_type_in t k)).params (func_proper (func_type_in t k)).result s
        (λ name f. named_in name (funcs_in declared) primitives _
        (callee_known m a declared d k typed.0 name typed.2 f ∙ ap (λ o. Some (c_func_type_if o)) (sym typed.1)))

    object_is : (pointer : CType) (object : Name) (o : Option Import) (n : Name) → IsGiven m pointer object o → is_symbol n ≡ true
        → IsExternal declared (accessor m (accessor_type pointer) n o object)
    object_is pointer object None n g s = address_is declared pointer g.u object n s (object_known m a declared d object g.u (g.own refl))
        g.to g.no_void g.no_object
    object_is pointer object (Some i) n g s =
        passes_on_is declared (type.Void ∷ []) pointer n (usable_symbol m i) (omega arith) refl (ap not g.no_object) s
        (λ name e. by (is_usable m i) refl name e)
      where
        by : (b : Bool) → is_usable m i ≡ b → (name : Name) → (if b then Some (import_symbol i) else None) ≡ Some name
            → named name (funcs_in declared ++ primitives) ≡ Some (accessor_type pointer)
        by true u name f =
            let h = g.imported i refl in
            subst (λ n. named n (funcs_in declared ++ primitives) ≡ Some (accessor_type pointer)) (some_same f)
            (named_in (import_symbol i) (funcs_in declared) primitives _ (import_known m a declared d i h.0 u ∙ ap Some h.1))
        by false u name f = absurd cc

    export_is : (e : Export) → unknown_export t e ≡ [] → IsExternal declared (export_func m e)
    export_is e valid = each_export m a (λ ty. IsExternal declared) (λ n. is_symbol n ≡ true) func_is object_is e valid
        (of_export (λ n. is_symbol n ≡ true) m (symbol_is m.name) e)

  export_keeps : (e : Export) → unknown_export t e ≡ [] → KeepsBehind m (known m) (tree.Function (export_func m e))
  export_keeps e valid before behind whole =
      let f : tree.Func = export_func m e in
      let external : IsExternal ((known m ++ before) ++ tree.Function f ∷ []) f =
      export_is _ (declared_at m before (tree.Function f) behind whole) e valid in
      function_keeps m f external.body external.body_is (known m ++ before) behind (λ whole. external.is) whole

  pub exports_keep : AllByRecursion (KeepsBehind m (known m)) (exports m)
  exports_keep = all_map _ (λ e. tree.Function (export_func m e)) t.exports (all_weaker _ _ t.exports export_keeps (valid_exports m a))
