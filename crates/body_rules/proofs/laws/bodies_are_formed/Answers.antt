use Rattle.body_rules.proofs.ProperBodies as proper
use Rattle.body_rules.proofs.laws.bodies_are_formed.Goals as goal

pub returns : goal.returns
returns c = proper.bodies_are_formed
