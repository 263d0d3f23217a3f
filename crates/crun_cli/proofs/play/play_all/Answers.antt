use Rattle.crun_cli.proofs.Common.{calls_seen}
use Rattle.crun_cli.proofs.play.play_all.Goals as goal

pub returns-in-Ok-Some-clause-played : goal.returns-in-Ok-Some-clause-played
returns-in-Ok-Some-clause-played g c = rw c.in-Ok-Some.field-0-is at c.in-Ok-Some.ensures.played (calls_seen c.args.calls.now)

pub returns-in-Err-clause-left : goal.returns-in-Err-clause-left
returns-in-Err-clause-left g c = c.in-Err.ensures.left (calls_seen c.args.calls.now)
