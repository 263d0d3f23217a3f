-- The values that numbers are for parameters.
use Rattle.crun_words.proofs.Common.{◌≡◌, ℕ, zero, suc, ◌+◌, ◌<◌, Bool, true, false, ◌&&◌, List, [], ◌∷◌, ◌++◌, map, length, take}
use Rattle.crun_words.proofs.Common.{slice_get, Some, All, sym, refl, ap, ◌∙◌, subst, arith, map_push, All-head, All-nil, All-push}
use Rattle.crun_words.proofs.Common.{All-tail, same_Some, take_next, Value, same_type, same_types, CType, Void, AreArguments, IsArgument}
use Rattle.w2c_base.specs.Values.{IsNumber, number_of, type_of, types_of}
use Rattle.c_tree.specs.TypesInC.{c_params_of, c_type_of}
use Rattle.std.proofs.Math.Seq.{take-length}
use Rattle.w2c_base.proofs.Types.{types_push}

-- the values for the parameters in front of a place
pub record AreSome (params : List CType) (numbers : List ℕ) (k : ℕ) (values : List Value) : Type 0 where
  pub types_are : take k params ≡ map c_type_of (types_of values)
  pub numbers_are : take k numbers ≡ map number_of values
  pub fit : All IsNumber values

pub none_yet : (params : List CType) (numbers : List ℕ) → AreSome params numbers 0 []
none_yet params numbers = record { types_are = refl; numbers_are = refl; fit = All-nil IsNumber }

pub one_more : (params : List CType) (numbers : List ℕ) (k : ℕ) (t : CType) (n : ℕ) (values new : List Value) (v : Value)
    → slice_get params k ≡ Some t → slice_get numbers k ≡ Some n → AreSome params numbers k values → IsArgument t n v
    → new ≡ values ++ v ∷ []
    → AreSome params numbers (k + 1) new
one_more params numbers k t n values new v at at_number so_far is pushed = record {
  types_are =
      take_next params k t at ∙ (λ i. so_far.types_are i ++ is.type_is i ∷ []) ∙ sym (map_push c_type_of (types_of values) (type_of v))
      ∙ ap (map c_type_of) (sym (types_push values v)) ∙ ap (λ (l : List Value). map c_type_of (types_of l)) (sym pushed);
  numbers_are = take_next numbers k n at_number ∙ (λ i. so_far.numbers_are i ++ is.number_is i ∷ []) ∙ sym (map_push number_of values v)
      ∙ ap (map number_of) (sym pushed);
  fit = subst (λ (l : List Value). All IsNumber l) (sym pushed) (All-push IsNumber values v so_far.fit is.fits);
}

take_all : {A : Type 0} (xs : List A) (k : ℕ) → k ≡ length xs → take k xs ≡ xs
take_all xs k end = ap (λ n. take n xs) end ∙ take-length xs

-- some value, so the types are no list void
params_are : (values : List Value) (numbers : List ℕ) → 0 < length numbers → numbers ≡ map number_of values
    → map c_type_of (types_of values) ≡ c_params_of (types_of values)
params_are [] numbers some are = absurd (let none : length numbers ≡ 0 = ap length are in omega (arith, some, none))
params_are (v ∷ values) numbers some are = refl

pub all_given : (params : List CType) (numbers : List ℕ) (k : ℕ) (values : List Value) → 0 < length numbers → k ≡ length params
    → k ≡ length numbers → AreSome params numbers k values → AreArguments params numbers values
all_given params numbers k values some end end_numbers are =
    let are_numbers : numbers ≡ map number_of values = sym (take_all numbers k end_numbers) ∙ are.numbers_are in
    record {
      types_are = sym (take_all params k end) ∙ are.types_are ∙ params_are values numbers some are_numbers;
      numbers_are = are_numbers;
      fit = are.fit;
    }

-- ---- refusals

not_among : (values : List Value) (k : ℕ) (t : CType) (n : ℕ) → slice_get (map c_type_of (types_of values)) k ≡ Some t
    → slice_get (map number_of values) k ≡ Some n → All IsNumber values → ((v : Value) → IsArgument t n v → ⊥) → ⊥
not_among [] k t n at at_number fit none = cc
not_among (v ∷ values) zero t n at at_number fit none = none v (record {
  type_is = sym (same_Some (c_type_of (type_of v)) t at);
  number_is = sym (same_Some (number_of v) n at_number);
  fits = All-head IsNumber v values fit;
})
not_among (v ∷ values) (suc k) t n at at_number fit none = not_among values k t n at at_number (All-tail IsNumber v values fit) none

typed : (params : List CType) (numbers : List ℕ) (values : List Value) → 0 < length numbers → AreArguments params numbers values
    → params ≡ map c_type_of (types_of values)
typed params numbers values some are = are.types_are ∙ sym (params_are values numbers some are.numbers_are)

-- a number that is no value for its parameter
pub no_argument : (params : List CType) (numbers : List ℕ) (values : List Value) (k : ℕ) (t : CType) (n : ℕ) → 0 < length numbers
    → slice_get params k ≡ Some t → slice_get numbers k ≡ Some n → ((v : Value) → IsArgument t n v → ⊥) → AreArguments params numbers values
    → ⊥
no_argument params numbers values k t n some at at_number none are =
    not_among values k t n (ap (λ (l : List CType). slice_get l k) (sym (typed params numbers values some are)) ∙ at)
    (ap (λ (l : List ℕ). slice_get l k) (sym are.numbers_are) ∙ at_number) are.fit none

-- not one for each parameter
pub not_each : (params : List CType) (numbers : List ℕ) (values : List Value) → 0 < length numbers → (length params ≡ length numbers → ⊥)
    → AreArguments params numbers values → ⊥
not_each params numbers values some differ are =
    differ (ap length (typed params numbers values some are) ∙ lengths values ∙ sym (ap length are.numbers_are))
  where
    lengths : (vs : List Value) → length (map c_type_of (types_of vs)) ≡ length (map number_of vs)
    lengths [] = refl
    lengths (v ∷ vs) = ap suc (lengths vs)

-- no number
pub no_number : (params : List CType) → params ≡ Void ∷ [] → AreArguments params [] []
no_number params is = record { types_are = is; numbers_are = refl; fit = All-nil IsNumber }

pub no_number_void : (params : List CType) (values : List Value) → AreArguments params [] values → params ≡ Void ∷ []
no_number_void params [] are = are.types_are
no_number_void params (v ∷ values) are = absurd (let none = ap length are.numbers_are in omega (arith, none))

-- ---- the list void

type_is_void : (t : CType) → (same_type t Void && true) ≡ true → t ≡ Void
type_is_void Void e = refl
type_is_void _ e = absurd cc

pub void_is : (params : List CType) → same_types params (Void ∷ []) ≡ true → params ≡ Void ∷ []
void_is [] e = absurd cc
void_is (t ∷ []) e = ap (λ (u : CType). u ∷ []) (type_is_void t e)
void_is (t ∷ u ∷ params) e = absurd (never (same_type t Void) e)
  where
    never : (b : Bool) → (b && false) ≡ true → ⊥
    never true e = cc
    never false e = cc
