use Rattle.c_helpers.proofs.Common.{ap, ◌∙◌, operator_step}
use Rattle.c_helpers.proofs.StepOfKind.{by_operator}
use Rattle.c_helpers.proofs.steps.step_of.Goals as goal

pub returns-in_default : goal.returns-in_default
returns-in_default c =
    let d = c.in_default in
    c.operator_step.ensures ∙ ap operator_step c.parts.ensures ∙ by_operator c.args.kind.now
    d.not-I32Const d.not-I64Const d.not-MemorySize d.not-MemoryGrow d.not-MemoryCopy d.not-MemoryFill
