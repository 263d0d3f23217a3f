-- The types of parameters in C, where there are some and where there are none.
use Rattle.c_tree.proofs.Common.{◌≡◌, ◌<◌, List, [], ◌∷◌, map, length, refl, arith, c_params_of, c_type_of}
use Rattle.w2c_base.specs.declared.value.ValType.{ValType}
use Rattle.w2c_base.specs.declared.value.ValType.TheVariants.{I32, I64}
use Rattle.c_tree.specs.declared.tree.CType.TheVariants.{Void}
use Rattle.c_tree.specs.Rules.{proper_types}

pub proper_params : (types : List ValType) → proper_types (c_params_of types) ≡ map c_type_of types
proper_params [] = refl
proper_params (I32 ∷ []) = refl
proper_params (I64 ∷ []) = refl
proper_params (I32 ∷ t ∷ types) = refl
proper_params (I64 ∷ t ∷ types) = refl

pub params_none : (types : List ValType) → length types ≡ 0 → c_params_of types ≡ Void ∷ []
params_none [] e = refl
params_none (t ∷ types) e = absurd (omega (arith, e))

pub params_there : (types : List ValType) → 0 < length types → c_params_of types ≡ map c_type_of types
params_there [] e = absurd (omega (arith, e))
params_there (t ∷ types) e = refl
