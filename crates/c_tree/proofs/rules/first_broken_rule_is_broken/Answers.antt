use Rattle.c_tree.proofs.FirstBroken as law
use Rattle.c_tree.proofs.rules.first_broken_rule_is_broken.Goals as goal

pub returns-clause-broken : goal.returns-clause-broken
returns-clause-broken c = law.is_broken

pub returns-clause-none : goal.returns-clause-none
returns-clause-none c = law.none_is_broken
