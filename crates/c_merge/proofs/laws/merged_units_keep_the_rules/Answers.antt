use Rattle.c_merge.proofs.Linked.{linked_fit}
use Rattle.c_merge.proofs.OneUnit.{one_keeps}
use Rattle.c_merge.proofs.laws.merged_units_keep_the_rules.Goals as goal

pub returns : goal.returns
returns c = λ p are. one_keeps p (linked_fit p are)
