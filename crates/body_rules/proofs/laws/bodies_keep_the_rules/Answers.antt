use Rattle.body_rules.proofs.ProperBodies as proper
use Rattle.body_rules.proofs.laws.bodies_keep_the_rules.Goals as goal

pub returns : goal.returns
returns c = proper.bodies_keep_the_rules
