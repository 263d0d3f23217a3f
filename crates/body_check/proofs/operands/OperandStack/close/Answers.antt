use Rattle.body_check.proofs.Common.{◌<◌, length, refl, ap, ◌∙◌, arith, empties, on_some, bottom}
use Rattle.body_check.proofs.Piles.{filled_pile}
use Rattle.body_check.proofs.operands.OperandStack.close.Goals as goal

pub returns-else-is_empty-clause-step : goal.returns-else-is_empty-clause-step
returns-else-is_empty-clause-step c =
    let left = c.pop_value.new.self in
    let more : left.height.below < length left.slots.items = search (arith, c.is_empty.ensures, c.if-is_empty) in
    (refl, ap (λ o. on_some o empties) c.in-Ok.ensures.step ∙ filled_pile left.height.below left.slots.items (bottom left.height.dead) more)
