use Rattle.wasm_valid.proofs.Common.{Option, option_map, option_copied, sym, ap, ◌∙◌, subst, FuncType, EntersBody, typed_context_seen}
use Rattle.wasm_valid.proofs.EnteredBodies.{typed_entered, fault_entered}
use Rattle.wasm_valid.proofs.valid.enter_body_fault.Goals as goal

pub returns-in-Ok : goal.returns-in-Ok
returns-in-Ok c =
    subst (λ (found : Option FuncType). EntersBody (option_map (typed_context_seen c.args.spaces.now c.args.body.now) found) c.args.body.now
    c.args.first.now.found c.args.first.now.found)
    (sym (ap option_copied c.in-Some.is) ∙ c.func_type.ensures)
    (typed_entered c.args.spaces.now c.in-Some.ty.now c.args.body.now c.in-Ok.ensures.0 c.args.first.now.found c.in-Ok.ensures.1)

pub returns-in-Err-Invalid : goal.returns-in-Err-Invalid
returns-in-Err-Invalid c =
    let refused = rw c.in-Err-Invalid.field-0-is at c.in-Err-Invalid.ensures in
    subst (λ (found : Option FuncType). EntersBody (option_map (typed_context_seen c.args.spaces.now c.args.body.now) found) c.args.body.now
    c.args.first.now.found c.enter.new.self.found)
    (sym (ap option_copied c.in-Some.is) ∙ c.func_type.ensures)
    (fault_entered c.args.spaces.now c.in-Some.ty.now c.args.body.now
    refused.0 (record { place = c.in-Err-Invalid.place; cause = c.in-Err-Invalid.cause }) c.args.first.now.found c.enter.new.self.found
    refused.1 c.enter.ensures)
