use Rattle.wasm_valid.proofs.Common.{Option, sym, ap, ◌∙◌, subst, entered, EntersBodies, module_faults, Verdict, bodies_of, outcome_of}
use Rattle.wasm_valid.proofs.Common.{Fault}
use Rattle.wasm_valid.proofs.EnteredBodies.{verdict_found}
use Rattle.wasm_valid.proofs.valid.refuse_first.Goals as goal

pub returns-in-Some : goal.returns-in-Some
returns-in-Some c =
    let m = c.args.m.now in
    subst (λ (found : Option Fault). Verdict m (outcome_of found)) (sym c.found.ensures ∙ c.in-Some.is)
    (verdict_found m c.enter_body_faults.new.first.found
    (subst (λ old. EntersBodies m (bodies_of m) old c.enter_body_faults.new.first.found)
    (c.in_ok-enter_module_faults.ensures ∙ ap (λ o. entered o (module_faults m)) c.new-first.ensures) c.in_ok-enter_body_faults.ensures))

pub returns-in-None : goal.returns-in-None
returns-in-None c =
    let m = c.args.m.now in
    subst (λ (found : Option Fault). Verdict m (outcome_of found)) (sym c.found.ensures ∙ c.in-None.is)
    (verdict_found m c.enter_body_faults.new.first.found
    (subst (λ old. EntersBodies m (bodies_of m) old c.enter_body_faults.new.first.found)
    (c.in_ok-enter_module_faults.ensures ∙ ap (λ o. entered o (module_faults m)) c.new-first.ensures) c.in_ok-enter_body_faults.ensures))
