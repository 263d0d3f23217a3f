-- Types of functions that are compared.
use Rattle.c_symbols.proofs.Common.{◌≡◌, Bool, true, false, ◌&&◌, List, [], ◌∷◌, map, length, refl, ap, ◌∙◌, arith, ValType, same_type}
use Rattle.c_symbols.proofs.Common.{same_types, c_params_of, c_type_of}
use Rattle.w2c_base.specs.declared.value.ValType.TheVariants.{I32, I64}

and_false : (b : Bool) → false ≡ (b && false)
and_false true = refl
and_false false = refl

other_lengths : (xs ys : List ValType) → (length xs ≡ length ys → ⊥) → false ≡ same_types (map c_type_of xs) (map c_type_of ys)
other_lengths [] [] other = absurd (other refl)
other_lengths [] (y ∷ ys) other = refl
other_lengths (x ∷ xs) [] other = refl
other_lengths (x ∷ xs) (y ∷ ys) other =
    and_false (same_type (c_type_of x) (c_type_of y))
    ∙ ap (λ b. same_type (c_type_of x) (c_type_of y) && b) (other_lengths xs ys (λ e. other (omega (arith, e))))

-- `void` is no parameter's type
pub params_of_other_lengths : (xs ys : List ValType) → (length xs ≡ length ys → ⊥) → false ≡ same_types (c_params_of xs) (c_params_of ys)
params_of_other_lengths [] [] other = absurd (other refl)
params_of_other_lengths [] (I32 ∷ ys) other = refl
params_of_other_lengths [] (I64 ∷ ys) other = refl
params_of_other_lengths (I32 ∷ xs) [] other = refl
params_of_other_lengths (I64 ∷ xs) [] other = refl
params_of_other_lengths (x ∷ xs) (y ∷ ys) other = other_lengths (x ∷ xs) (y ∷ ys) other
