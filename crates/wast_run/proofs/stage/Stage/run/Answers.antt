use Rattle.wast_run.proofs.Common.{sym, ap, subst, listed_calls, IsReady}
use Rattle.wast_run.proofs.StageLaws.{at_with}
use Rattle.wast_run.proofs.stage.Stage.run.Goals as goal

pub returns-in-Ok-clause-same : goal.returns-in-Ok-clause-same
returns-in-Ok-clause-same c = ap (λ set. at_with set (listed_calls c.args.self.now.kept.items)) c.run_last.ensures.set

pub returns-in-Ok-clause-sound : goal.returns-in-Ok-clause-sound
returns-in-Ok-clause-sound c =
    let same = ap (λ set. at_with set (listed_calls c.args.self.now.kept.items)) c.run_last.ensures.set in
    record { ready = subst IsReady (sym same) c.requires.sound.ready; units = c.in-Ok.ensures.units }
