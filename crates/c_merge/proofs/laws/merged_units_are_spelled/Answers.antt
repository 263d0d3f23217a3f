use Rattle.c_merge.proofs.Formed.{one_formed}
use Rattle.c_merge.proofs.laws.merged_units_are_spelled.Goals as goal

pub returns : goal.returns
returns c = one_formed
