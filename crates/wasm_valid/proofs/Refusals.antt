-- What a refusal of a module says.
use Rattle.wasm_typing.specs.declared.fault.ValidRefusal.TheVariants as refused
use Rattle.wasm_valid.proofs.Common.{◌≡◌, ℕ, Err, refl, ap, subst, Module, Invalid, IsValid, Verdict, Fault, ValidCause, ValidRefusal}
use Rattle.wasm_valid.specs.SaysVerdict.{SaysVerdict}
use Rattle.wasm_valid.proofs.Verdicts.{no_fault, same_fault}

abbrev pub Refused : Module → ValidRefusal → Type 0
Refused m refusal = SaysVerdict {A = Unit} (Err refusal) m

pub refused_valid : (m : Module) (refusal : ValidRefusal) → Refused m refusal → IsValid m
    → (refusal ≡ refused.Memory → ⊥) → ⊥
refused_valid m (refused.Invalid place cause) v h wanted = no_fault m (record { place = place; cause = cause }) v h
refused_valid m refused.Memory v h wanted = wanted refl

pub refused_by_first : (m : Module) (refusal : ValidRefusal) (fault : Fault) → Refused m refusal
    → refusal ≡ refused.Invalid fault.place fault.cause → Verdict m (Invalid fault)
refused_by_first m (refused.Invalid place cause) fault v e =
    let at : place ≡ fault.place = cc in
    let why : cause ≡ fault.cause = cc in
    subst (λ (k : ValidCause). Verdict m (Invalid (record { place = fault.place; cause = k }))) why
    (subst (λ (p : ℕ). Verdict m (Invalid (record { place = p; cause = cause }))) at v)
refused_by_first m refused.Memory fault v e = absurd (let f : ⊥ = cc in f)

pub first_refuses : (m : Module) (refusal : ValidRefusal) (fault : Fault) → Refused m refusal → Verdict m (Invalid fault)
    → (refusal ≡ refused.Memory → ⊥) → refusal ≡ refused.Invalid fault.place fault.cause
first_refuses m (refused.Invalid place cause) fault v w wanted =
    ap (λ (f : Fault). refused.Invalid f.place f.cause) (same_fault m (record { place = place; cause = cause }) fault v w)
first_refuses m refused.Memory fault v w wanted = absurd (wanted refl)
