use Rattle.c_tree.proofs.BrokenInOrder as law
use Rattle.c_tree.proofs.rules.first_broken_rule_is_the_least.Goals as goal

pub returns-clause-first : goal.returns-clause-first
returns-clause-first c = law.is_first

pub returns-clause-only : goal.returns-clause-only
returns-clause-only c = law.is_found

pub returns-clause-one : goal.returns-clause-one
returns-clause-one c = law.has_first
