use Rattle.crun_job.specs.Texts.{IsRefusedText, IsUnitText}
use Rattle.crun_job.proofs.Each.{one_first}
use Rattle.crun_job.proofs.Texts.{one_cause, text_apart}
use Rattle.crun_job.proofs.law.one_refused_text.Goals as goal

pub returns-clause-number : goal.returns-clause-number
returns-clause-number c = λ texts k n why other a b. (one_first IsUnitText IsRefusedText text_apart one_cause texts k n why other a b).0

pub returns-clause-why : goal.returns-clause-why
returns-clause-why c = λ texts k n why other a b. (one_first IsUnitText IsRefusedText text_apart one_cause texts k n why other a b).1
