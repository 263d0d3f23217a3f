use Rattle.crun_job.proofs.Calls.{fits_anywhere}
use Rattle.crun_job.proofs.law.hosts_say_nothing.Goals as goal

pub returns : goal.returns
returns c = fits_anywhere
