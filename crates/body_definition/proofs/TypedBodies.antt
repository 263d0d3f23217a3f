-- Each body of a valid module is typed.
use Rattle.body_definition.proofs.Common.{◌≡◌, ℕ, zero, suc, List, [], ◌∷◌, slice_get, Some, Option, option_map, ap, subst, FuncType}
use Rattle.body_definition.proofs.Common.{type_in}
use Rattle.body_definition.proofs.Common.{BodyEntry, FuncEntry, Module, Context, body_context, context_of, BodyHasType, AreTyped, IsTyped}

pub typed_body : (m : Module) (bodies : List (FuncEntry × BodyEntry)) (j : ℕ) (d : FuncEntry × BodyEntry) (ty : FuncType)
    → AreTyped m bodies
    → slice_get bodies j ≡ Some d
    → type_in m d.0.type_index ≡ Some ty → BodyHasType (context_of m ty d.1) d.1.code
typed_body m [] j d ty all at is = absurd cc
typed_body m (b ∷ bodies) zero d ty all at is =
    let same : b ≡ d = cc in
    let typed : IsTyped (body_context m d.0 d.1) d.1 = subst (λ (x : FuncEntry × BodyEntry). IsTyped (body_context m x.0 x.1) x.1)
    same all.0 in
    subst (λ (c : Option Context). IsTyped c d.1) (ap (option_map (λ (t : FuncType). context_of m t d.1)) is) typed
typed_body m (b ∷ bodies) (suc j) d ty all at is = typed_body m bodies j d ty all.1 at is
