use Rattle.std.proofs.Common.{get_or, refl}
use Rattle.body_check.proofs.Gathered.{one_more_copied}
use Rattle.body_check.proofs.context.add_funcs.Goals as goal

pub loop-func-preserved : goal.loop-func-preserved
loop-func-preserved c =
    let items = c.args.funcs.now in
    let i = c.loop-func.func-index in
    one_more_copied (λ f. f.type_index) items i (get_or items i _) _ _ _ _ c.loop-func-test.true refl c.in_ok-push.ensures.items
    c.loop-func.invariant
