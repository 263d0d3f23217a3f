use Rattle.std.proofs.Common.{get_or, refl}
use Rattle.body_check.proofs.Gathered.{one_more_copied}
use Rattle.body_check.proofs.context.add_limits.Goals as goal

pub loop-entry-preserved : goal.loop-entry-preserved
loop-entry-preserved c =
    let items = c.args.entries.now in
    let i = c.loop-entry.entry-index in
    one_more_copied (λ t. t.limits) items i (get_or items i _) _ _ _ _ c.loop-entry-test.true refl c.in_ok-push.ensures.items
    c.loop-entry.invariant
