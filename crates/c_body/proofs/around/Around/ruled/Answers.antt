use Rattle.c_body.proofs.Common.{◌≡◌, OnOk, Result, sym, subst, kind_tree, setting_of, Made, ran_plain, made_by, Setting}
use Rattle.wasm_tree.specs.declared.operators.Kind.{Kind}
use Rattle.c_body.proofs.OneKind.{by_no_rule}
use Rattle.c_body.proofs.around.Around.ruled.Goals as goal

-- what was made for the instruction that this is
for_this : {A E : Type 0} (c : Setting) (r : Result A E) (m n : Made) (this k : Kind) → this ≡ k
    → OnOk r (n ≡ ran_plain c m (kind_tree k)) → OnOk r (n ≡ ran_plain c m (kind_tree this))
for_this c r m n this k is h = subst (λ (k : Kind). OnOk r (n ≡ ran_plain c m (kind_tree k))) (sym is) h

pub returns-in-Unreachable-clause-made : goal.returns-in-Unreachable-clause-made
returns-in-Unreachable-clause-made c =
    for_this (setting_of c.args.self.now) c.unreachable.result (made_by c.args.emitter.now) (made_by c.unreachable.new.emitter)
    c.args.kind.now _ c.in-Unreachable.is c.unreachable.ensures.made

pub returns-in-Br-clause-made : goal.returns-in-Br-clause-made
returns-in-Br-clause-made c =
    for_this (setting_of c.args.self.now) c.br.result (made_by c.args.emitter.now) (made_by c.br.new.emitter)
    c.args.kind.now _ c.in-Br.is c.br.ensures.made

pub returns-in-BrIf-clause-made : goal.returns-in-BrIf-clause-made
returns-in-BrIf-clause-made c =
    for_this (setting_of c.args.self.now) c.br_if.result (made_by c.args.emitter.now) (made_by c.br_if.new.emitter)
    c.args.kind.now _ c.in-BrIf.is c.br_if.ensures.made

pub returns-in-Return-clause-made : goal.returns-in-Return-clause-made
returns-in-Return-clause-made c =
    for_this (setting_of c.args.self.now) c.back.result (made_by c.args.emitter.now) (made_by c.back.new.emitter)
    c.args.kind.now _ c.in-Return.is c.back.ensures.made

pub returns-in-Call-clause-made : goal.returns-in-Call-clause-made
returns-in-Call-clause-made c =
    for_this (setting_of c.args.self.now) c.call.result (made_by c.args.emitter.now) (made_by c.call.new.emitter)
    c.args.kind.now _ c.in-Call.is c.call.ensures.made

pub returns-in-CallIndirect-clause-made : goal.returns-in-CallIndirect-clause-made
returns-in-CallIndirect-clause-made c =
    for_this (setting_of c.args.self.now) c.call_indirect.result (made_by c.args.emitter.now) (made_by c.call_indirect.new.emitter)
    c.args.kind.now _ c.in-CallIndirect.is c.call_indirect.ensures.made

pub returns-in-Select-clause-made : goal.returns-in-Select-clause-made
returns-in-Select-clause-made c =
    for_this (setting_of c.args.self.now) c.select.result (made_by c.args.emitter.now) (made_by c.select.new.emitter)
    c.args.kind.now _ c.in-Select.is c.select.ensures.made

pub returns-in-LocalGet-clause-made : goal.returns-in-LocalGet-clause-made
returns-in-LocalGet-clause-made c =
    for_this (setting_of c.args.self.now) c.local_get.result (made_by c.args.emitter.now) (made_by c.local_get.new.emitter)
    c.args.kind.now _ c.in-LocalGet.is c.local_get.ensures.made

pub returns-in-LocalSet-clause-made : goal.returns-in-LocalSet-clause-made
returns-in-LocalSet-clause-made c =
    for_this (setting_of c.args.self.now) c.local_set.result (made_by c.args.emitter.now) (made_by c.local_set.new.emitter)
    c.args.kind.now _ c.in-LocalSet.is c.local_set.ensures.made

pub returns-in-LocalTee-clause-made : goal.returns-in-LocalTee-clause-made
returns-in-LocalTee-clause-made c =
    for_this (setting_of c.args.self.now) c.local_tee.result (made_by c.args.emitter.now) (made_by c.local_tee.new.emitter)
    c.args.kind.now _ c.in-LocalTee.is c.local_tee.ensures.made

pub returns-in-GlobalGet-clause-made : goal.returns-in-GlobalGet-clause-made
returns-in-GlobalGet-clause-made c =
    for_this (setting_of c.args.self.now) c.global_get.result (made_by c.args.emitter.now) (made_by c.global_get.new.emitter)
    c.args.kind.now _ c.in-GlobalGet.is c.global_get.ensures.made

pub returns-in-GlobalSet-clause-made : goal.returns-in-GlobalSet-clause-made
returns-in-GlobalSet-clause-made c =
    for_this (setting_of c.args.self.now) c.global_set.result (made_by c.args.emitter.now) (made_by c.global_set.new.emitter)
    c.args.kind.now _ c.in-GlobalSet.is c.global_set.ensures.made

pub returns-in_default-clause-made : goal.returns-in_default-clause-made
returns-in_default-clause-made c =
    let d = c.in_default in
    by_no_rule (setting_of c.args.self.now) (made_by c.args.emitter.now) c.args.kind.now
    d.not-Unreachable d.not-Br d.not-BrIf d.not-BrTable d.not-Return d.not-Call d.not-CallIndirect d.not-Drop d.not-Select
    d.not-LocalGet d.not-LocalSet d.not-LocalTee d.not-GlobalGet d.not-GlobalSet c.requires.no_step
