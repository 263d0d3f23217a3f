use Rattle.c_tree.proofs.FirstBroken as law
use Rattle.c_tree.proofs.rules.one_first_broken_rule.Goals as goal

pub returns : goal.returns
returns c = law.one_first
