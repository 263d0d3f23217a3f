-- Which arguments fit the parameters of a function.
use Rattle.c_link.proofs.Common.{◌≡◌, ℕ, suc, ◌+◌, ◌<◌, ◌≤◌, Bool, true, false, ◌&&◌, List, [], ◌∷◌, map, length, drop, refl, ap, ◌∙◌}
use Rattle.c_link.proofs.Common.{arith, type_of, types_of, Value, same_type, same_types, CType, c_params_of, c_type_of}
use Rattle.c_tree.specs.declared.tree.CType.TheVariants.{Void}

-- ---- types of arguments

pub arguments_typed : (args : List Value) → 0 < length args → c_params_of (types_of args) ≡ map c_type_of (types_of args)
arguments_typed [] some = absurd (omega arith)
arguments_typed (v ∷ args) some = refl

-- parameters and arguments agree from the i-th on as they do on the whole
abbrev pub Agree : ℕ → List CType → List Value → Type 0
Agree i params args =
    same_types (drop i params) (map c_type_of (types_of (drop i args))) ≡ same_types params (map c_type_of (types_of args))

pub unequal : (params : List CType) (args : List Value) → (length params ≡ length args → ⊥)
    → false ≡ same_types params (map c_type_of (types_of args))
unequal [] [] not = absurd (not refl)
unequal (p ∷ params) (v ∷ args) not = go (same_type p (c_type_of (type_of v))) (unequal params args (λ e. not (ap suc e)))
  where
    go : (b : Bool) → false ≡ same_types params (map c_type_of (types_of args))
        → false ≡ (b && same_types params (map c_type_of (types_of args)))
    go true e = e
    go false e = refl
unequal _ _ not = refl

-- ---- no arguments

pub no_arguments : (args : List Value) → length args ≡ 0 → c_params_of (types_of args) ≡ Void ∷ []
no_arguments [] none = refl
no_arguments (v ∷ args) none = absurd (omega arith)
