use Rattle.wasm2c_cli.proofs.JobLaws.{one_job, one_job_over}
use Rattle.wasm2c_cli.proofs.law.one_job.Goals as goal

pub returns-clause-contents : goal.returns-clause-contents
returns-clause-contents c = one_job

pub returns-clause-reads : goal.returns-clause-reads
returns-clause-reads c = one_job_over
