use Rattle.c_merge.proofs.Linked.{linked_fit}
use Rattle.c_merge.proofs.Units.{units_may_merge}
use Rattle.c_merge.proofs.laws.linked_units_may_merge.Goals as goal

pub returns : goal.returns
returns c = λ p are. units_may_merge p (linked_fit p are)
