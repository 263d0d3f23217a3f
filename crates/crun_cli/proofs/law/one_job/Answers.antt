use Rattle.crun_cli.proofs.OneJob.{one_job}
use Rattle.crun_cli.proofs.law.one_job.Goals as goal

pub returns : goal.returns
returns c = one_job
