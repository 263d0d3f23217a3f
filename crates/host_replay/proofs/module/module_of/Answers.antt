use Rattle.host_replay.proofs.Common.{[], ◌∷◌, ◌++◌, sym, ◌∙◌, take_next}
use Rattle.host_replay.proofs.module.module_of.Goals as goal

pub loop-i-preserved : goal.loop-i-preserved
loop-i-preserved g c =
    c.in_ok-push.ensures.items ∙ (λ i. c.loop-i.invariant i ++ c.in_ok-function_copy.ensures i ∷ [])
    ∙ sym (take_next (g.H.HostModule.functions_of c.args.host.now) c.loop-i.i c.function.result.now c.function.ensures)
