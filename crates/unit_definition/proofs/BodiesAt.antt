-- What stands behind the functions of a module that is accepted: each has a type and a body that is typed.
use Rattle.unit_definition.proofs.Common.{◌≡◌, ℕ, zero, suc, ◌+◌, ◌-◌, ◌<◌, ◌≤◌, true, List, [], ◌∷◌, length, is_none, slice_get, Some}
use Rattle.unit_definition.proofs.Common.{None, Option, option_map, zip, flat_map, unwrap_or, refl, ap, ◌∙◌, subst, arith, same_Some}
use Rattle.unit_definition.proofs.Common.{none_at, all_at, if_found, FuncType, defined_behind_imports, imported_funcs, type_in}
use Rattle.unit_definition.proofs.Common.{BodyEntry, FuncEntry, TypeEntry, Module, body_context, context_of, fault_if, unknown_import_type}
use Rattle.unit_definition.proofs.Common.{bodies_of, Void, NamedModule, body_of, func_of, BodyHasLimits, HasLimits, IsAccepted}
use Rattle.unit_definition.proofs.AcceptedLimits.{accepted_limits}
use Rattle.wasm_typing.specs.declared.fault.ValidCause.TheVariants as cause
use Rattle.wasm_typing.specs.Typing.{BodyHasType}
use Rattle.wasm_typing.specs.Verdict.{IsTyped, AreTyped}
use Rattle.c_init.proofs.NoFaults.{rows_of}
use Rattle.c_init.proofs.Small.{no_right, no_fault, there_is}

pub record BodyAt (m : NamedModule) (k : ℕ) : Type 0 where
  pub ty : FuncType
  pub entry : BodyEntry
  pub is : body_of m.tree m.name k ≡ func_of m k ty entry
  pub typed : BodyHasType (context_of m.tree ty entry) entry.code
  pub within : BodyHasLimits entry
  pub place : ℕ
  pub listed : slice_get m.tree.bodies place ≡ Some entry
  pub params : length ty.params ≤ 60
  pub func : FuncEntry
  pub func_is : slice_get m.tree.funcs (k - imported_funcs m.tree) ≡ Some func
  pub type_is : type_in m.tree func.type_index ≡ Some ty

-- ---- lists

pub get_zip : {A B : Type 0} (xs : List A) (ys : List B) (i : ℕ) → i < length xs → length ys ≡ length xs
    → (x : A) × (y : B) × (slice_get xs i ≡ Some x) × (slice_get ys i ≡ Some y) × (slice_get (zip xs ys) i ≡ Some (x, y))
get_zip [] ys i less e = absurd (omega arith)
get_zip (x ∷ xs) [] i less e = absurd (omega arith)
get_zip (x ∷ xs) (y ∷ ys) zero less e = (x, y, refl, refl, refl)
get_zip (x ∷ xs) (y ∷ ys) (suc i) less e = let h : suc (length ys) ≡ suc (length xs) = e in get_zip xs ys i (omega arith) (omega (arith, h))

typed_at : (m : Module) (bodies : List (FuncEntry × BodyEntry)) (i : ℕ) (b : FuncEntry × BodyEntry) → AreTyped m bodies
    → slice_get bodies i ≡ Some b → IsTyped (body_context m b.0 b.1) b.1
typed_at m [] i b all e = absurd cc
typed_at m (c ∷ bodies) zero b all e = subst (λ (d : FuncEntry × BodyEntry). IsTyped (body_context m d.0 d.1) d.1) (same_Some c b e) all.0
typed_at m (c ∷ bodies) (suc i) b all e = typed_at m bodies i b all.1 e

pub few_params : (m : Module) → HasLimits m → (x : ℕ) (ty : FuncType) → type_in m x ≡ Some ty → length ty.params ≤ 60
few_params m w x ty e = by (slice_get m.types x) refl e
  where
    by : (o : Option TypeEntry) → slice_get m.types x ≡ o → option_map (λ (t : TypeEntry). t.ty) o ≡ Some ty → length ty.params ≤ 60
    by None f g = absurd cc
    by (Some t) f g = let h : t.ty ≡ ty = cc in subst (λ (u : FuncType). length u.params ≤ 60) h
        (all_at (λ (t : TypeEntry). length t.ty.params ≤ 60) m.types x t w.params f)

pub few_found : (m : Module) → HasLimits m → (o : Option ℕ) (ty : FuncType) → if_found o (type_in m) ≡ Some ty → length ty.params ≤ 60
few_found m w None ty e = absurd cc
few_found m w (Some x) ty e = few_params m w x ty e

-- ---- each function

pub body_at : (m : NamedModule) → IsAccepted m → (i : ℕ) → i < length m.tree.funcs → BodyAt m (imported_funcs m.tree + i)
body_at m a i less =
    let found = get_zip m.tree.funcs m.tree.bodies i less (accepted_limits a).bodies_are_there in
    let fault = none_at (λ (f : FuncEntry). fault_if (is_none (type_in m.tree f.type_index)) f.place cause.UnknownType)
    m.tree.funcs i found.0
    (no_right (flat_map (unknown_import_type m.tree) m.tree.imports) _ (rows_of m.tree a.valid.no_faults).known) found.2 in
    let known = there_is (type_in m.tree found.0.type_index)
    (no_fault (is_none (type_in m.tree found.0.type_index)) found.0.place cause.UnknownType fault) in
    let back : imported_funcs m.tree + i - imported_funcs m.tree ≡ i = omega arith in
    record {
      ty = known.0;
      entry = found.1;
      is = ap (λ o. unwrap_or (if_found o
          (λ (d : FuncEntry × BodyEntry). option_map (λ ty. func_of m (imported_funcs m.tree + i) ty d.1) (type_in m.tree d.0.type_index)))
          (record { is_static = true; result = Void; name = []; params = []; body = None }))
          (defined_behind_imports m.tree (bodies_of m.tree) (imported_funcs m.tree + i) i refl ∙ found.4)
          ∙ ap (λ o. unwrap_or (option_map (λ ty. func_of m (imported_funcs m.tree + i) ty found.1) o)
          (record { is_static = true; result = Void; name = []; params = []; body = None })) known.1;
      typed = subst (λ o. IsTyped (option_map (λ ty. context_of m.tree ty found.1) o) found.1) known.1
          (typed_at m.tree (bodies_of m.tree) i (found.0, found.1) a.valid.bodies found.4);
      within = all_at BodyHasLimits m.tree.bodies i found.1 (accepted_limits a).bodies found.3;
      place = i;
      listed = found.3;
      params = few_params m.tree (accepted_limits a) found.0.type_index known.0 known.1;
      func = found.0;
      func_is = ap (slice_get m.tree.funcs) back ∙ found.2;
      type_is = known.1;
    }
