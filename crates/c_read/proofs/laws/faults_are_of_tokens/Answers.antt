use Rattle.std.proofs.Common.{subst}
use Rattle.c_read.proofs.Once.{IsOfToken, stops_at_token}
use Rattle.c_read.proofs.laws.faults_are_of_tokens.Goals as goal

pub returns-clause-not_too_long : goal.returns-clause-not_too_long
returns-clause-not_too_long c text f upto is = subst IsOfToken is (stops_at_token upto)

pub returns-clause-not_memory : goal.returns-clause-not_memory
returns-clause-not_memory c text f upto is = subst IsOfToken is (stops_at_token upto)
