use Rattle.body_check.proofs.Common.{◌<◌, length, arith, bottom}
use Rattle.body_check.proofs.Piles.{shown_pop}
use Rattle.body_check.proofs.operands.OperandStack.pop.Goals as goal

pub returns-in-Some-clause-step : goal.returns-in-Some-clause-step
returns-in-Some-clause-step c =
    let more : c.args.self.now.height.below < length c.args.self.now.slots.items = search (arith, c.is_empty.ensures, c.if-not-is_empty) in
    shown_pop c.args.self.now.height.below c.args.self.now.slots.items c.pop.new.self.items c.in-Some.operand
    (bottom c.args.self.now.height.dead) more c.in-Some.ensures.items
