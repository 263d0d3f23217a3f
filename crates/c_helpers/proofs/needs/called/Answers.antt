use Rattle.c_helpers.proofs.Common.{◌||◌, ap, list_any}
use Rattle.c_helpers.proofs.CalledHelpers.{bodies_next, bodies_through, body_calls}
use Rattle.c_helpers.proofs.needs.called.Goals as goal

pub loop-body-init : goal.loop-body-init
loop-body-init c = λ q. ap (λ b. b || list_any (body_calls q) c.args.m.now.bodies) (c.none-marks.ensures q)

pub loop-body-preserved : goal.loop-body-preserved
loop-body-preserved c =
    bodies_next c.enter_code.new.marks c.loop-body.marks c.as_slice-body-items.result.now c.args.m.now.bodies c.args.m.now.bodies
    c.loop-body.body-index
    c.body-item.result c.as_slice-body-items.ensures c.loop-body-test.true c.body-item.is c.enter_code.ensures c.loop-body.invariant

pub returns : goal.returns
returns c =
    bodies_through c.loop-body.marks c.as_slice-body-items.result.now c.args.m.now.bodies c.args.m.now.bodies c.loop-body.body-index
    c.as_slice-body-items.ensures c.loop-body-test.false c.loop-body.invariant
