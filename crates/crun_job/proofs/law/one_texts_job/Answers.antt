use Rattle.crun_job.proofs.JobLaws.{one_texts_job}
use Rattle.crun_job.proofs.law.one_texts_job.Goals as goal

pub returns : goal.returns
returns c = one_texts_job
