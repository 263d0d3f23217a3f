-- Types of values and functions: tests of their equality tell and hold, and signature numbers decide them.
use Rattle.body_meaning.proofs.Common.{◌≡◌, ℕ, ◌+◌, ◌*◌, ◌<◌, Bool, true, false, ◌&&◌, ◌≢◌, List, [], ◌∷◌, nat_eq, Option, sym, refl, ap}
use Rattle.body_meaning.proofs.Common.{◌∙◌, ap₂, arith, nat_tests, both_hold, equal_results-eq, results_equal_themselves, params_digits}
use Rattle.body_meaning.proofs.Common.{sig_number_of, type_digit, equal_func_types, equal_results, equal_types, FuncType, ValType}
use Rattle.body_meaning.proofs.Common.{types_equal_themselves, equal_types-eq}

pub func_types_equal : (f g : FuncType) → f.params ≡ g.params → f.result ≡ g.result → f ≡ g
func_types_equal f g p r = ap₂ (λ params result. record { params = params; result = result }) p r

pub equal_func_types_tell : (f g : FuncType) → equal_func_types f g ≡ true → f ≡ g
equal_func_types_tell f g e =
    let h = both_hold (equal_types f.params g.params) (equal_results f.result g.result) e in
    func_types_equal f g (equal_types-eq f.params g.params h.0) (equal_results-eq f.result g.result h.1)

pub equal_func_types_same : (f : FuncType) → equal_func_types f f ≡ true
equal_func_types_same f =
    ap (λ b. b && equal_results f.result f.result) (types_equal_themselves f.params) ∙ results_equal_themselves f.result

pub digits_some : (n : ℕ) (ps : List ValType) → 0 < n → 0 < params_digits n ps
digits_some n [] some = some
digits_some n (p ∷ ps) some = digits_some (2 * n + type_digit p) ps (omega (arith, some))

pub sig_number_some : (ps : List ValType) (r : Option ValType) → sig_number_of ps r ≢ 0
sig_number_some ps r e = omega (arith, digits_some 1 ps (omega arith), e)

-- the law of signature numbers, which w2c_base proves
abbrev pub NumbersTellTypes : Type 0
NumbersTellTypes = (ps qs : List ValType) (r s : Option ValType) → sig_number_of ps r ≡ sig_number_of qs s → (ps ≡ qs) × (r ≡ s)

-- the numbers' test is that of the types
pub numbers_decide : NumbersTellTypes → (f g : FuncType) → equal_func_types f g ≡ nat_eq (sig_number_of f.params f.result)
    (sig_number_of g.params g.result)
numbers_decide law f g = go (nat_eq (sig_number_of f.params f.result) (sig_number_of g.params g.result)) refl
  where
    differ : (b : Bool) → equal_func_types f g ≡ b → nat_eq (sig_number_of f.params f.result) (sig_number_of g.params g.result) ≡ false
        → equal_func_types f g ≡ false
    differ false is other = is
    differ true is other =
        let same : f ≡ g = equal_func_types_tell f g is in
        let equal : sig_number_of f.params f.result ≡ sig_number_of g.params g.result =
        ap (λ (t : FuncType). sig_number_of t.params t.result) same in
        absurd (grind (arith, nat_tests, other, equal))

    go : (b : Bool) → nat_eq (sig_number_of f.params f.result) (sig_number_of g.params g.result) ≡ b
        → equal_func_types f g ≡ nat_eq (sig_number_of f.params f.result) (sig_number_of g.params g.result)
    go true is =
        let equal : sig_number_of f.params f.result ≡ sig_number_of g.params g.result = grind (arith, nat_tests, is) in
        let h = law f.params g.params f.result g.result equal in
        ap (λ t. equal_func_types t g) (func_types_equal f g h.0 h.1) ∙ equal_func_types_same g ∙ sym is
    go false is = differ (equal_func_types f g) refl is ∙ sym is
