use Rattle.body_check.proofs.Common.{◌≤◌, length, Some, sym, ap, arith, bottom}
use Rattle.body_check.proofs.Piles.{shown_push}
use Rattle.body_check.proofs.operands.OperandStack.push.Goals as goal

pub returns-clause-step : goal.returns-clause-step
returns-clause-step c =
    let within : c.args.self.now.height.below ≤ length c.args.self.now.slots.items = search (arith, c.args.self.now.within) in
    ap Some (sym (shown_push c.args.self.now.height.below c.args.self.now.slots.items c.push.new.self.items c.args.operand
    (bottom c.args.self.now.height.dead) within c.in_ok-push.ensures.items))
