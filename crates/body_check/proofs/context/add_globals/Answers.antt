use Rattle.body_check.proofs.Gathered.{one_more_copied}
use Rattle.body_check.proofs.context.add_globals.Goals as goal

pub loop-global-preserved : goal.loop-global-preserved
loop-global-preserved c =
    one_more_copied (λ g. (g.ty, g.mutable)) c.args.globals.now c.loop-global.global-index c.global-item.result c.global-item.result _ _ _
    c.loop-global-test.true
    c.global-item.is c.in_ok-push.ensures.items c.loop-global.invariant
