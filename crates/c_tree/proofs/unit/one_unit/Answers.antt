use Rattle.c_tree.proofs.OneUnit as law
use Rattle.c_tree.proofs.unit.one_unit.Goals as goal

pub returns : goal.returns
returns c = law.one_unit
