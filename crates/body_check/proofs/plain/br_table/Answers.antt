use Rattle.body_check.proofs.Common.{reverse, ◌∙◌, shown}
use Rattle.body_check.proofs.Steps.{jumped_by_table}
use Rattle.body_check.proofs.plain.br_table.Goals as goal

pub returns-in_ok-pop_type-clause-step : goal.returns-in_ok-pop_type-clause-step
returns-in_ok-pop_type-clause-step c context =
    jumped_by_table context (reverse c.args.labels.now) c.jump.result (shown c.args.operands.now) (shown c.jump.new.operands)
    c.args.others.now c.args.label c.in_ok-carried.carried (shown c.pop_type.new.self)
    c.in_ok-carried.ensures (c.in_ok-all_carry.ensures.0 ∙ c.if-branch.true) c.in_ok-all_carry.ensures.1
    c.in_ok-pop_type.ensures.step c.jump.ensures.step
