use Rattle.w2c_gen.proofs.Numbers.{number_more, bodies_more}
use Rattle.w2c_gen.proofs.functions.bodies.Goals as goal

pub loop-k-preserved : goal.loop-k-preserved
loop-k-preserved c =
    let number = number_more c.args.n c.loop-k.k c.loop-k.x c.next-x.result c.loop-k.invariant.0 c.next-x.ensures in (
      number,
      bodies_more c.args.n c.loop-k.k c.next-x.result _ _ _ number
          c.loop-k.invariant.1 c.in_ok-body.ensures c.in_ok-push.ensures.ok,
    )
