use Rattle.c_trim.proofs.Needed.{one_trimmed}
use Rattle.c_trim.proofs.laws.one_trimmed_unit.Goals as goal

pub returns : goal.returns
returns c = one_trimmed
