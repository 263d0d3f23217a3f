-- The functions of exports: each passes a call on, or gives a pointer to an object, which may be imported.
use Rattle.unit_rules.proofs.Common.{◌≡◌, ℕ, zero, suc, ◌^◌, ◌≤◌, Bool, true, false, List, [], ◌∷◌, map, length, is_some, is_none, IsSome}
use Rattle.unit_rules.proofs.Common.{slice_get, Some, None, Option, sym, refl, ap, ◌∙◌, subst, arith, length-append, length-map, all_at, at}
use Rattle.unit_rules.proofs.Common.{slice_get_within, AllByRecursion, get_front, named, FuncType, ValType, global_count, func_space, Name}
use Rattle.unit_rules.proofs.Common.{func_type_in, global_space, imported_global_space, is_global_import, is_memory_import, is_table_import}
use Rattle.unit_rules.proofs.Common.{memory_space, table_space, NamedModule, Export, ExportKind, ExportFunc, ExportGlobal, ExportMemory}
use Rattle.unit_rules.proofs.Common.{ExportTable, GlobalEntry, Import, Module, unknown_export, global_name, memory_name, table_name, IsName}
use Rattle.unit_rules.proofs.Common.{is_void, proper_types, is_among, is_object_type, c_params_of, c_type_of, CType, callee, accessor_type}
use Rattle.unit_rules.proofs.Common.{c_func_type_if, export_symbol, export_type, global_accessor_type, global_imports, global_symbol, I32}
use Rattle.unit_rules.proofs.Common.{import_symbol, import_type, memory_imports, pointer_type, table_imports, vars_in, accessor, passes_on}
use Rattle.unit_rules.proofs.Common.{export_func, IsAccepted, I64, pointer_to, rows_of, each_none, no_fault, some_same, imported_global}
use Rattle.unit_rules.proofs.Common.{own_global, own_memory_is, own_table_is, objects, few_globals}
use Rattle.wasm_typing.specs.declared.fault.ValidCause.TheVariants as cause
use Rattle.c_tree.specs.declared.tree.CType.TheVariants as type
use Rattle.c_tree.specs.Tree as tree
use Rattle.c_init.proofs.Countable.{few_memories, few_tables}
use Rattle.unit_rules.proofs.ExportTypes.{HasShape, accessor_is, accessor_shape, object_import_type, passes_shape, pointer_is}
use Rattle.unit_rules.proofs.ExportTypes.{wrapper_types}
use Rattle.unit_rules.proofs.KnownFuncs.{kept_among}
use Rattle.unit_rules.proofs.UnitNames.{global_named}

-- ---- what is given by a pointer

pub few_types : (o : Option FuncType) → ((ty : FuncType) → o ≡ Some ty → length ty.params ≤ 60)
    → length (proper_types (c_func_type_if o).params) ≤ 2 ^ 64
few_types None f = omega arith
few_types (Some ty) f = by ty.params (f ty refl)
  where
    by : (params : List ValType) → length params ≤ 60 → length (proper_types (c_params_of params)) ≤ 2 ^ 64
    by [] le = omega arith
    by (I32 ∷ params) le = let n = length-map params c_type_of in omega (arith, n, le)
    by (I64 ∷ params) le = let n = length-map params c_type_of in omega (arith, n, le)

-- an object, which was imported or is the unit's own
pub record IsGiven (m : NamedModule) (pointer : CType) (object : Name) (o : Option Import) : Type 0 where
  pub u : CType
  pub to : pointer_to u ≡ Some pointer
  pub no_void : is_void pointer ≡ false
  pub no_object : is_object_type pointer ≡ false
  pub has_name : IsName object
  pub own : o ≡ None → named object (vars_in (objects m)) ≡ Some u
  pub imported : (i : Import) → o ≡ Some i → (is_among (import_symbol i) (map import_symbol m.tree.imports) ≡ true) ×
      (import_type m.tree i ≡ accessor_type pointer)

module _ (m : NamedModule) (a : IsAccepted m) where
  abbrev t : Module
  t = m.tree

  -- the first of a space that has one at most
  first_of : {A : Type 0} (space : List A) (k : ℕ) → length space ≤ 1 → is_none (slice_get space k) ≡ false
      → (k ≡ 0) × IsSome (slice_get space 0)
  first_of [] k few out = absurd cc
  first_of (x ∷ space) zero few out = (refl, refl)
  first_of (x ∷ []) (suc k) few out = absurd cc
  first_of (x ∷ y ∷ space) (suc k) few out = absurd (omega (arith, few))

  table_given : (k : ℕ) → is_none (slice_get (table_space t) k) ≡ false → IsGiven m type.PtrTab table_name (slice_get (table_imports t) k)
  table_given k out =
      let first = first_of (table_space t) k (few_tables t a.valid.no_faults) out in
      record {
        u = type.Tab;
        to = refl;
        no_void = refl;
        no_object = refl;
        has_name = refl;
        own = λ e. own_table_is m a first.1 (ap is_some (subst (λ j. slice_get (table_imports t) j ≡ None) first.0 e));
        imported = λ i e. let h = kept_among import_symbol is_table_import t.imports k i e in (h.0, (object_import_type t i).0 h.1);
      }

  memory_given : (k : ℕ) → is_none (slice_get (memory_space t) k) ≡ false
      → IsGiven m type.PtrMem memory_name (slice_get (memory_imports t) k)
  memory_given k out =
      let first = first_of (memory_space t) k (few_memories t a.valid.no_faults) out in
      record {
        u = type.Mem;
        to = refl;
        no_void = refl;
        no_object = refl;
        has_name = refl;
        own = λ e. own_memory_is m a first.1 (ap is_some (subst (λ j. slice_get (memory_imports t) j ≡ None) first.0 e));
        imported = λ i e. let h = kept_among import_symbol is_memory_import t.imports k i e in (h.0, (object_import_type t i).1 h.1);
      }

  global_given : (k : ℕ) (g : ValType × Bool) → slice_get (global_space t) k ≡ Some g
      → IsGiven m (pointer_type g.0) (global_name k) (slice_get (global_imports t) k)
  global_given k g at =
      let p = pointer_is g.0 in
      let low = slice_get_within (global_space t) k g at in
      let whole = length-append {A = ValType × Bool} (imported_global_space t) (map (λ (g : GlobalEntry). (g.ty, g.mutable)) t.globals) in
      let own = length-map {B = ValType × Bool} t.globals (λ (g : GlobalEntry). (g.ty, g.mutable)) in
      let counted = global_count t.imports in
      record {
        u = c_type_of g.0;
        to = p.0;
        no_void = p.1;
        no_object = p.2;
        has_name = global_named k (omega (arith, low, whole, own, counted, few_globals m a));
        own = λ e. own_global m a k g at (ap is_some e);
        imported = λ i e.
            let found = imported_global t.imports k i e in
            let same : found.1 ≡ g.0 = ap (λ (x : ValType × Bool). x.0)
            (some_same (sym (get_front (imported_global_space t) _ k (found.1, found.0) found.2) ∙ at)) in (
              (kept_among import_symbol is_global_import t.imports k i e).0,
              accessor_is t i found.1 found.0 found.3 ∙ ap (λ ty. accessor_type (pointer_type ty)) same,
            );
      }

  -- ---- each export

  -- what holds of each function that passes a call on, and of each that gives an object, holds of the function of an export
  pub each_export : (P : tree.FuncType → tree.Func → Type 0) (Q : Name → Type 0)
      → ((k : ℕ) (n : Name) → is_none (slice_get (func_space t) k) ≡ false → Q n
      → P (c_func_type_if (func_type_in t k)) (passes_on (c_func_type_if (func_type_in t k)) n (callee m k)))
      → ((pointer : CType) (object : Name) (o : Option Import) (n : Name) → IsGiven m pointer object o → Q n
      → P (accessor_type pointer) (accessor m (accessor_type pointer) n o object))
      → (e : Export) → unknown_export t e ≡ [] → Q (export_symbol m e) → P (export_type t e) (export_func m e)
  each_export P Q funcs objects e valid q = by e.kind valid q
    where
      global : (o : Option (ValType × Bool)) → slice_get (global_space t) e.index ≡ o → is_none o ≡ false → Q
          (global_symbol m.name o e.name)
          → P (global_accessor_type o) (accessor m (global_accessor_type o) (global_symbol m.name o e.name)
          (slice_get (global_imports t) e.index) (global_name e.index))
      global None at out q = absurd cc
      global (Some g) at out q = objects (pointer_type g.0) (global_name e.index) _ _ (global_given e.index g at) q

      by : (kind : ExportKind) → unknown_export t (record e { kind = kind }) ≡ [] → Q (export_symbol m (record e { kind = kind }))
          → P (export_type t (record e { kind = kind })) (export_func m (record e { kind = kind }))
      by ExportFunc v q = funcs e.index _ (no_fault (is_none (slice_get (func_space t) e.index)) e.index_place cause.UnknownFunction v) q
      by ExportTable v q = objects type.PtrTab table_name (slice_get (table_imports t) e.index) _
          (table_given e.index (no_fault (is_none (slice_get (table_space t) e.index)) e.index_place cause.UnknownTable v)) q
      by ExportMemory v q = objects type.PtrMem memory_name (slice_get (memory_imports t) e.index) _
          (memory_given e.index (no_fault (is_none (slice_get (memory_space t) e.index)) e.index_place cause.UnknownMemory v)) q
      by ExportGlobal v q = global (slice_get (global_space t) e.index) refl
          (no_fault (is_none (slice_get (global_space t) e.index)) e.index_place cause.UnknownGlobal v) q

  pub valid_exports : AllByRecursion (λ e. unknown_export t e ≡ []) t.exports
  valid_exports = each_none (unknown_export t) t.exports (rows_of t a.valid.no_faults).exports

  pub each_shape : (i : ℕ) (e : Export) → slice_get t.exports i ≡ Some e → HasShape (export_type t e) (export_func m e)
  each_shape i e at = each_export HasShape (λ n. Unit {0}) (λ k n out q. passes_shape _ n _ (wrapper_types (func_type_in t k)))
      (λ pointer object o n g q. accessor_shape m pointer n o object) e
      (all_at (λ e. unknown_export t e ≡ []) t.exports i e valid_exports at) tt
