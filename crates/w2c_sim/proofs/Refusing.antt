-- Refusals are verdicts: each comes where its verdict does, and there is one at most.
use Rattle.w2c_sim.proofs.Common.{◌≡◌, ℕ, ◌≢◌, List, IfOk, IfErr, IsOk, Ok, Err, Result, sym, refl, ap, ◌∙◌, Module, FileVerdict}
use Rattle.w2c_sim.proofs.Common.{IsVerdictOn, Read, Unread, Accepted, Verdict, is_invalid}
use Rattle.wasm_spelling.specs.declared.fault.ReadFault.TheVariants as fault
use Rattle.wasm_spelling.specs.ModuleFields.{Spells}
use Rattle.wasm_typing.specs.declared.fault.Fault.{Fault}
use Rattle.wasm_typing.specs.declared.fault.ValidRefusal.{ValidRefusal}
use Rattle.wasm_typing.specs.declared.fault.ValidRefusal.TheVariants as rule
use Rattle.wasm_valid.proofs.Files.{one_file_verdict}
use Rattle.w2c_sim.specs.declared.refusal.Refusal.{Refusal}
use Rattle.w2c_sim.specs.declared.refusal.Refusal.TheVariants.{Malformed, Float, Limit, Invalid, Memory}
use Rattle.w2c_sim.specs.Refusals.{IsRefused, IsRefusal, refusal_of, invalid_of}

-- ---- what the checker says

pub rule_refusal : (bytes : List ℕ) (tree : Module) (r : ValidRefusal) → Spells tree bytes
    → ((f : Fault) → ◌≡◌ {A = Result Module ValidRefusal} (Err r) (Err (rule.Invalid f.place f.cause)) → Verdict tree (is_invalid f))
    → IsRefusal bytes (invalid_of r)
rule_refusal bytes tree (rule.Invalid place cause) spelled first = (tree, (spelled, first (record { place = place; cause = cause }) refl))
rule_refusal bytes tree rule.Memory spelled first = tt

-- ---- one verdict

-- the verdict that a refusal is
abbrev verdict_of : Refusal → FileVerdict → Type 0
verdict_of (Malformed place cause) v = v ≡ Unread (fault.Malformed place cause)
verdict_of (Float place) v = v ≡ Unread (fault.Float place)
verdict_of (Limit place which) v = v ≡ Unread (fault.Limit place which)
verdict_of (Invalid place cause) v = (tree : Module) × (v ≡ Read tree (is_invalid (record { place = place; cause = cause })))
verdict_of Memory v = ⊥

refusal_verdict : (bytes : List ℕ) (r : Refusal) → IsRefused bytes r → (v : FileVerdict) × IsVerdictOn bytes v × verdict_of r v
refusal_verdict bytes (Malformed place cause) is = (Unread (fault.Malformed place cause), is, refl)
refusal_verdict bytes (Float place) is = (Unread (fault.Float place), is, refl)
refusal_verdict bytes (Limit place which) is = (Unread (fault.Limit place which), is, refl)
refusal_verdict bytes (Invalid place cause) is = (Read is.0 (is_invalid (record { place = place; cause = cause })), is.1, (is.0, refl))
refusal_verdict bytes Memory is = absurd is

-- a verdict makes one refusal
abbrev refusal_for : FileVerdict → Refusal
refusal_for (Unread f) = refusal_of f
refusal_for (Read tree Accepted) = Memory
refusal_for (Read tree (is_invalid f)) = Invalid f.place f.cause

verdict_makes : (r : Refusal) (v : FileVerdict) → verdict_of r v → refusal_for v ≡ r
verdict_makes (Invalid place cause) v (tree, e) = ap refusal_for e
verdict_makes Memory v e = absurd e
verdict_makes _ v e = ap refusal_for e

pub one_refusal : (bytes : List ℕ) (r other : Refusal) → IsRefused bytes r → IsRefused bytes other → r ≡ other
one_refusal bytes r other is is' =
    let (v, on, of_r) = refusal_verdict bytes r is in
    let (w, on', of_other) = refusal_verdict bytes other is' in
    sym (verdict_makes r v of_r) ∙ ap refusal_for (one_file_verdict bytes v w on on') ∙ verdict_makes other w of_other

pub accepted_is_not_refused : (bytes : List ℕ) (tree : Module) (r : Refusal) → IsVerdictOn bytes (Read tree Accepted) → IsRefused bytes r
    → ⊥
accepted_is_not_refused bytes tree r accepted is =
    let (v, on, of_r) = refusal_verdict bytes r is in
    no_memory r is (sym (verdict_makes r v of_r) ∙ ap refusal_for (one_file_verdict bytes v (Read tree Accepted) on accepted))
  where
    no_memory : (r : Refusal) → IsRefused bytes r → r ≡ Memory → ⊥
    no_memory Memory is e = absurd is
    no_memory _ is e = cc

-- what is refused was refused for it, unless memory was wanting
pub refused_for : (bytes : List ℕ) (r : Refusal) → r ≢ Memory → IsRefusal bytes r → IsRefused bytes r
refused_for bytes Memory no_memory is = absurd (no_memory refl)
refused_for bytes _ no_memory is = is

-- ---- the answers where an accepted file gives something, and a refused one its verdict

pub accepted_is_given : {A : Type 0} (bytes : List ℕ) (result : Result A Refusal) → IfErr result (IsRefusal bytes)
    → (tree : Module) → IsVerdictOn bytes (Read tree Accepted) → result ≢ Err Memory → IsOk result
accepted_is_given bytes (Ok given) refused tree accepted no_memory = refl
accepted_is_given bytes (Err r) refused tree accepted no_memory =
    absurd (accepted_is_not_refused bytes tree r accepted (refused_for bytes r (λ e. no_memory (ap Err e)) refused))

-- where what is given says that the bytes have an accepted module
pub refused_is_given : {A : Type 0} (bytes : List ℕ) (result : Result A Refusal) (P : A → Type 0)
    → ((x : A) → P x → (tree : Module) × IsVerdictOn bytes (Read tree Accepted)) → IfOk result P → IfErr result (IsRefusal bytes)
    → (r : Refusal) → IsRefused bytes r → result ≢ Err Memory → result ≡ Err r
refused_is_given bytes (Ok given) P accepts made refused r is no_memory =
    let (tree, accepted) = accepts given made in
    absurd (accepted_is_not_refused bytes tree r accepted is)
refused_is_given bytes (Err other) P accepts made refused r is no_memory =
    ap Err (one_refusal bytes other r (refused_for bytes other (λ e. no_memory (ap Err e)) refused) is)
