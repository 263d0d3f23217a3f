-- Values that are told by the types of parameters and by their numbers.
use Rattle.crun_job.proofs.Common.{◌≡◌, true, List, [], ◌∷◌, map, All, refl, ap, ◌∙◌, false≢true, list_all, IsNumber, is_number, number_of}
use Rattle.crun_job.proofs.Common.{type_of, types_of, Value, c_params_of, c_type_of}
use Rattle.std.proofs.lemmas.List.Sums.{AllPass-from_list_all}
use Rattle.w2c_base.specs.declared.value.Value.TheVariants.{I32, I64}
use Rattle.w2c_base.proofs.Numbers.{found_is_number}

same_value : (v w : Value) → c_type_of (type_of v) ≡ c_type_of (type_of w) → number_of v ≡ number_of w → v ≡ w
same_value (I32 n) (I32 m) types numbers = ap I32 numbers
same_value (I64 n) (I64 m) types numbers = ap I64 numbers
same_value _ _ types numbers = absurd cc

all_same : (vs ws : List Value) → map c_type_of (types_of vs) ≡ map c_type_of (types_of ws) → map number_of vs ≡ map number_of ws → vs ≡ ws
all_same [] [] types numbers = refl
all_same (v ∷ vs) (w ∷ ws) types numbers =
    let first_type : c_type_of (type_of v) ≡ c_type_of (type_of w) = cc in
    let first_number : number_of v ≡ number_of w = cc in
    let other_types : map c_type_of (types_of vs) ≡ map c_type_of (types_of ws) = cc in
    let other_numbers : map number_of vs ≡ map number_of ws = cc in
    ap (λ x. x ∷ vs) (same_value v w first_type first_number) ∙ ap (λ xs. w ∷ xs) (all_same vs ws other_types other_numbers)
all_same _ _ types numbers = absurd cc

pub same_values : (vs ws : List Value) → c_params_of (types_of vs) ≡ c_params_of (types_of ws)
    → map number_of vs ≡ map number_of ws → vs ≡ ws
same_values [] [] types numbers = refl
same_values (v ∷ vs) (w ∷ ws) types numbers = all_same (v ∷ vs) (w ∷ ws) types numbers
same_values _ _ types numbers = absurd cc

-- numbers of their types, by the test for it
pub all_numbers : (values : List Value) → list_all is_number values ≡ true → All IsNumber values
all_numbers values e = λ k d less. found_is_number _ (AllPass-from_list_all is_number values e k d less)
