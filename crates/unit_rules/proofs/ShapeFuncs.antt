-- What the functions of a module's unit stand for: those of bodies by their index, of exports and init by their symbol.
use Rattle.unit_rules.proofs.Common.{◌≡◌, ℕ, zero, suc, ◌-◌, ◌<◌, true, false, List, [], ◌∷◌, map, length, slice_get, Some, flat_map, sym}
use Rattle.unit_rules.proofs.Common.{bytes_eq, refl, ap, ◌∙◌, subst, arith, false≢true, AllByRecursion, get_mapped, all_at, all_from, Name}
use Rattle.unit_rules.proofs.Common.{if_found, init_symbol_of, func_count, func_of_import, func_type_in, imported_funcs, type_in, Export}
use Rattle.unit_rules.proofs.Common.{NamedModule, FuncEntry, Module, context_of, func_name, func_type_of, c_result_of, bytes_equal, defined}
use Rattle.unit_rules.proofs.Common.{Definition, defined_for_all, IsDefined, c_func_type_if, export_symbol, export_type, body_of, func_of}
use Rattle.unit_rules.proofs.Common.{stmts_of, body_locals, export_func, init_func, items, IsAccepted, DefinesExternal, GivesExport, BodyAt}
use Rattle.unit_rules.proofs.Common.{get_late, AllPairs, few_funcs}
use Rattle.c_tree.specs.declared.tree.CType.TheVariants as type
use Rattle.c_tree.specs.Tree as tree
use Rattle.unit_definition.proofs.Defined.{FirstExport, head, symbol_is, export_external, export_defined, init_defined, body_defined}
use Rattle.unit_rules.proofs.ExportFacts.{symbols_differ}
use Rattle.unit_rules.proofs.ExportGiven.{each_shape}
use Rattle.unit_rules.proofs.ObjectsGiven.{gives_export}
use Rattle.unit_rules.proofs.KnownFuncs.{param_types}
use Rattle.unit_rules.proofs.WholeUnit.{body_here}

pair_at_places : {A : Type 0} (R : A → A → Type 0) (xs : List A) (i j : ℕ) (x y : A) → AllPairs R xs → i < j → slice_get xs i ≡ Some x
    → slice_get xs j ≡ Some y → R x y
pair_at_places R [] i j x y h less e f = absurd cc
pair_at_places R (z ∷ xs) zero zero x y h less e f = absurd (omega (arith, less))
pair_at_places R (z ∷ xs) (suc i) zero x y h less e f = absurd (omega (arith, less))
pair_at_places R (z ∷ xs) zero (suc j) x y h less e f = subst (λ w. R w y) (let same : z ≡ x = cc in same) (all_at (R z) xs j y h.0 f)
pair_at_places R (z ∷ xs) (suc i) (suc j) x y h less e f = pair_at_places R xs i j x y h.1 (omega (arith, less)) e f

-- the symbol is defined by this function
abbrev IsDefinedAs : List tree.Item → Name → tree.Func → Type 0
IsDefinedAs unit name func = (d : Definition) × (defined_for_all unit name ≡ Some d) × (d.func ≡ func)

module _ (m : NamedModule) (a : IsAccepted m) where
  abbrev t : Module
  t = m.tree

  pub functions_stand : (index : ℕ) → IsDefined t index
      → (d : Definition) × (defined (items m) (func_name index) ≡ Some d) × (d.func.is_static ≡ true)
      × (func_type_of d.func ≡ c_func_type_if (func_type_in t index))
  functions_stand index there =
      let b : BodyAt m index = body_here m a index there.behind there.within in
      let full : tree.Func = func_of m index b.ty b.entry in
      let found = body_defined m index (body_in b) there (few_funcs m a) (ap (λ (f : tree.Func). f.body) b.is)
      (ap (λ (f : tree.Func). f.name) b.is) in (
        record { item = found.0; func = body_of t m.name index; body = body_in b },
        found.1,
        ap (λ (f : tree.Func). f.is_static) b.is,
        ap func_type_of b.is ∙ (ap (λ ps. record { params = ps; result = c_result_of b.ty.result }) (param_types b.ty.params)
            ∙ ap c_func_type_if (sym (type_known b))),
      )
    where
      body_in : BodyAt m index → tree.Body
      body_in b = record {
        locals = body_locals b.ty b.entry (context_of t b.ty b.entry);
        stmts = stmts_of (record { named = m; context = context_of t b.ty b.entry }) b.entry.code;
      }

      type_known : (b : BodyAt m index) → func_type_in t index ≡ Some b.ty
      type_known b =
          let counted = func_count t.imports in
          let late = there.behind in
          let same : index - length (flat_map func_of_import t.imports) ≡ index - imported_funcs t = omega (arith, counted) in
          ap (λ o. if_found o (type_in t))
          (get_late (flat_map func_of_import t.imports) (map (λ (f : FuncEntry). f.type_index) t.funcs) index (omega (arith, late, counted))
          ∙ (ap (slice_get (map (λ (f : FuncEntry). f.type_index) t.funcs)) same
          ∙ get_mapped (λ (f : FuncEntry). f.type_index) t.funcs (index - imported_funcs t) b.func b.func_is))
          ∙ b.type_is

  one_export : (i : ℕ) (e : Export) → slice_get t.exports i ≡ Some e → IsDefinedAs (items m) (export_symbol m e) (export_func m e)
  one_export i e at =
      let first : FirstExport m (export_symbol m e) e = (
        i,
        at,
        refl,
        λ j b less is same. false≢true (sym (pair_at_places
            (λ (x y : Export). bytes_eq (export_symbol m x) (export_symbol m y) ≡ false) t.exports j i b e (symbols_differ m a) less is at)
            ∙ (ap (bytes_eq (export_symbol m b)) (sym same) ∙ bytes_equal (export_symbol m b))),
      ) in
      let found = (export_defined m (export_symbol m e) e (ap head (symbol_is m e)) first).1 in
      (record { item = found.0; func = export_func m e; body = (export_external m e).body }, found.1, refl)

  abbrev IsGiven : Export → Type 0
  IsGiven e = (d : Definition) × (defined_for_all (items m) (export_symbol m e) ≡ Some d) × GivesExport m e d.func

  pub accessors_stand : AllByRecursion IsGiven t.exports
  accessors_stand = all_from IsGiven t.exports (λ i e at.
      let found = one_export i e at in (found.0, found.1, subst (GivesExport m e) (sym found.2) (gives_export m e)))

  pub exports_stand : AllByRecursion (λ e. DefinesExternal (items m) (export_symbol m e) (export_type t e)) t.exports
  exports_stand = all_from (λ e. DefinesExternal (items m) (export_symbol m e) (export_type t e)) t.exports (λ i e at.
      let found = one_export i e at in
      record { definition = found.0; there = found.1; typed = ap func_type_of found.2 ∙ (each_shape m a i e at).1 })

  pub init_stands : DefinesExternal (items m) (init_symbol_of m.name) (record { params = type.Void ∷ []; result = type.Void })
  init_stands =
      let found = init_defined m a.bytes in
      record { definition = record { item = found.3.0; func = init_func m; body = found.0 }; there = found.3.1; typed = refl }
