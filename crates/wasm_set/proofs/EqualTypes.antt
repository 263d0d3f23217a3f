-- Tests of types: each holds exactly of equal ones.
use Rattle.wasm_set.proofs.Common.{◌≡◌, Bool, true, false, ◌&&◌, List, [], ◌∷◌, Some, None, Option, refl, ap, ◌∙◌, both_hold}
use Rattle.wasm_set.proofs.Common.{equal_func_types, equal_results, equal_types, FuncType, ValType, are_one_type, equal_bool, and_from}
use Rattle.w2c_base.proofs.Types.{types_equal_themselves, equal_results-eq, equal_types-eq, results_equal_themselves}

pub one_bool : (a b : Bool) → equal_bool a b ≡ true → a ≡ b
one_bool true true e = refl
one_bool false false e = refl
one_bool true false e = absurd (cc)
one_bool false true e = absurd (cc)

pub same_bool : (a : Bool) → equal_bool a a ≡ true
same_bool true = refl
same_bool false = refl

pub one_func_type : (f g : FuncType) → equal_func_types f g ≡ true → f ≡ g
one_func_type f g e =
    let h = both_hold (equal_types f.params g.params) (equal_results f.result g.result) e in
    ap (λ (ps : List ValType). record { params = ps; result = f.result }) (equal_types-eq f.params g.params h.0)
    ∙ ap (λ (r : Option ValType). record { params = g.params; result = r }) (equal_results-eq f.result g.result h.1)

pub same_func_type : (f : FuncType) → equal_func_types f f ≡ true
same_func_type f = and_from _ _ (types_equal_themselves f.params) (results_equal_themselves f.result)

-- both are there, and one
pub are_one : (a b : Option FuncType) → are_one_type a b ≡ true → (ty : FuncType) × (a ≡ Some ty) × (b ≡ Some ty)
are_one (Some f) (Some g) e = (g, ap Some (one_func_type f g e), refl)
are_one (Some f) None e = absurd (cc)
are_one None (Some g) e = absurd (cc)
are_one None None e = absurd (cc)
