use Rattle.crun_job.proofs.UnitLaws.{linked_apart, one_refused_unit}
use Rattle.crun_job.proofs.law.one_refused_unit.Goals as goal

pub returns-clause-number : goal.returns-clause-number
returns-clause-number c = λ texts symbols k n why other a b. (one_refused_unit texts symbols k n why other a b).0

pub returns-clause-why : goal.returns-clause-why
returns-clause-why c = λ texts symbols k n why other a b. (one_refused_unit texts symbols k n why other a b).1

pub returns-clause-apart : goal.returns-clause-apart
returns-clause-apart c = linked_apart
