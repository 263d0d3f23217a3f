-- A module within the limits has few parameters in each of its types.
use Rattle.c_symbols.proofs.Common.{AllByRecursion, ◌≡◌, ℕ, ◌≤◌, length, slice_get, Some, None, Option, option_map, refl, subst, all_at}
use Rattle.c_symbols.proofs.Common.{FuncType, type_in, TypeEntry, Module, sym, ◌∙◌, slice_get-map, HaveFewParams, WithinLimits}

pub few_params : (m : Module) (t : ℕ) (ty : FuncType) → AllByRecursion (λ (y : TypeEntry). length y.ty.params ≤ 60) m.types
    → type_in m t ≡ Some ty → length ty.params ≤ 60
few_params m t ty all is = of_type (slice_get m.types t) refl is
  where
    of_type : (o : Option TypeEntry) → slice_get m.types t ≡ o → option_map (λ t. t.ty) o ≡ Some ty → length ty.params ≤ 60
    of_type None at is = absurd cc
    of_type (Some x) at is =
        let same : x.ty ≡ ty = cc in
        subst (λ (y : FuncType). length y.params ≤ 60) same
        (all_at (λ (y : TypeEntry). length y.ty.params ≤ 60) m.types t x all at)

pub few_params_of : (m : Module) → WithinLimits m → HaveFewParams m
few_params_of m within = λ t ty is.
    few_params m t ty within.params (sym (slice_get-map (λ (t : TypeEntry). t.ty) m.types t) ∙ sym is)
