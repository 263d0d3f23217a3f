use Rattle.wasm_meaning.proofs.Common.{◌≡◌, ℕ, List, [], ◌∷◌, Some, None, codes, Option, option_map, refl, ap, ◌∙◌, arith, if_found}
use Rattle.wasm_meaning.proofs.Common.{params_digits, types_of, FuncType, ValType, Value, FuncAddress, HostFunc, LinkedSet, ModuleFunc}
use Rattle.wasm_meaning.proofs.Common.{func_type, Fits, ListedCall, called_func, alone, call_of, exports_table, host_ticks, indirect_calls}
use Rattle.w2c_base.specs.declared.value.ValType.TheVariants as type
use Rattle.w2c_base.specs.declared.value.Value.TheVariants.{I32, I64}
use Rattle.wasm_meaning.proofs.cases.call_cases.Goals as goal

pub returns-clause-fits : goal.returns-clause-fits
returns-clause-fits c =
    (ModuleFunc 0 2, record { params = type.I32 ∷ []; result = Some type.I32 }, refl, refl, refl, (omega arith, tt))

pub returns-clause-host_function_handed_on : goal.returns-clause-host_function_handed_on
returns-clause-host_function_handed_on c = (HostFunc 0 0, record { params = []; result = Some type.I64 }, refl, refl, refl, tt)

-- what a function takes, as a number
abbrev number_of : Option (List ValType) → ℕ
number_of None = 0
number_of (Some types) = params_digits 1 types

abbrev taken : LinkedSet → Option FuncAddress → ℕ
taken s f = number_of (option_map (λ (ty : FuncType). ty.params) (if_found f (func_type s)))

-- a call that fits gives what its function takes
taken_agrees : (s : LinkedSet) (c : ListedCall) → Fits s c → taken s (called_func s c) ≡ number_of (Some (types_of c.args))
taken_agrees s c h =
    ap (taken s) h.2
    ∙ ap (λ (ty : Option FuncType). number_of (option_map (λ (ty : FuncType). ty.params) ty)) h.3
    ∙ ap (λ (types : List ValType). number_of (Some types)) h.4

abbrev call : List ℕ → List ℕ → List Value → ListedCall
call module_name name args = record { module_name = module_name; export_name = name; args = args }

pub returns-clause-no_such_module : goal.returns-clause-no_such_module
returns-clause-no_such_module c fits =
    let e = taken_agrees (alone indirect_calls) (call (codes "n") (codes "c") (I32 0 ∷ [])) fits in
    absurd (omega (arith, e))

pub returns-clause-host_is_no_module : goal.returns-clause-host_is_no_module
returns-clause-host_is_no_module c fits =
    let e = taken_agrees (alone host_ticks) (call (codes "env") (codes "tick") []) fits in
    absurd (omega (arith, e))

pub returns-clause-no_such_export : goal.returns-clause-no_such_export
returns-clause-no_such_export c fits =
    let e = taken_agrees (alone indirect_calls) (call_of (codes "d") (I32 0 ∷ [])) fits in
    absurd (omega (arith, e))

pub returns-clause-export_is_no_function : goal.returns-clause-export_is_no_function
returns-clause-export_is_no_function c fits =
    let e = taken_agrees (alone (exports_table None)) (call_of (codes "t") []) fits in
    absurd (omega (arith, e))

pub returns-clause-argument_missing : goal.returns-clause-argument_missing
returns-clause-argument_missing c fits =
    let e = taken_agrees (alone indirect_calls) (call_of (codes "c") []) fits in
    absurd (omega (arith, e))

pub returns-clause-argument_too_many : goal.returns-clause-argument_too_many
returns-clause-argument_too_many c fits =
    let e = taken_agrees (alone indirect_calls) (call_of (codes "c") (I32 0 ∷ I32 0 ∷ [])) fits in
    absurd (omega (arith, e))

pub returns-clause-argument_of_another_type : goal.returns-clause-argument_of_another_type
returns-clause-argument_of_another_type c fits =
    let e = taken_agrees (alone indirect_calls) (call_of (codes "c") (I64 0 ∷ [])) fits in
    absurd (omega (arith, e))

pub returns-clause-argument_past_the_width : goal.returns-clause-argument_past_the_width
returns-clause-argument_past_the_width c (f, ty, called, typed, params, (small, rest)) = absurd (omega (arith, small))
