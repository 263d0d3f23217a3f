use Rattle.crun_units.proofs.WriteJobs.{one_merge_job, one_trim_job}
use Rattle.crun_units.proofs.law.one_unit_job.Goals as goal

pub returns-clause-merged : goal.returns-clause-merged
returns-clause-merged c = one_merge_job

pub returns-clause-trimmed : goal.returns-clause-trimmed
returns-clause-trimmed c = one_trim_job
