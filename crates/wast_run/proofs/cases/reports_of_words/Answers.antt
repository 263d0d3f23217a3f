use Rattle.std.proofs.Common.{refl}
use Rattle.std.specs.Fmt.{digits}
use Rattle.wast_run.proofs.cases.reports_of_words.Goals as goal

pub returns-clause-none : goal.returns-clause-none
unfolding digits
returns-clause-none c = refl

pub returns-clause-right : goal.returns-clause-right
unfolding digits
returns-clause-right c = refl

pub returns-clause-one_wrong : goal.returns-clause-one_wrong
unfolding digits
returns-clause-one_wrong c = refl

pub returns-clause-each : goal.returns-clause-each
unfolding digits
returns-clause-each c = refl
