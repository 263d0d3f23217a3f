use Rattle.unit_rules.proofs.UnitsAreProper as proper
use Rattle.unit_rules.proofs.laws.units_are_proper.Goals as goal

pub returns : goal.returns
returns c = proper.units_are_proper c.bodies_keep_the_rules.ensures c.bodies_are_formed.ensures
