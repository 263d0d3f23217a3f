use Rattle.c_body.proofs.Common.{◌≡◌, ℕ, OnOk, sym, subst, kind_tree, setting_of, Made, made_by, HasOperands}
use Rattle.c_body.proofs.OneKind.{by_its_step}
use Rattle.c_body.proofs.Readiness.{taken_as_tabled}
use Rattle.c_body.proofs.around.Around.plain.Goals as goal

pub step-requires : goal.step-requires
step-requires c =
    subst (λ (k : ℕ). HasOperands k c.args.emitter.now.operands)
    (sym (taken_as_tabled (setting_of c.args.self.now).context (kind_tree c.args.kind.now) c.in-Some.step c.in-Some.ensures))
    c.requires.operands

pub returns-in-Some-clause-made : goal.returns-in-Some-clause-made
returns-in-Some-clause-made c =
    subst (λ (m : Made). OnOk c.step.result (made_by c.step.new.emitter ≡ m))
    (sym (by_its_step (setting_of c.args.self.now) (made_by c.args.emitter.now)
    (kind_tree c.args.kind.now) c.in-Some.step c.in-Some.ensures))
    c.step.ensures.made
