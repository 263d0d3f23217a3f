use Rattle.unit_meaning.proofs.Whole as whole
use Rattle.unit_meaning.proofs.laws.units_are_instantiated_alike.Goals as goal

pub returns : goal.returns
returns c = whole.units_are_instantiated_alike c.inits_follow.ensures c.bodies_follow.ensures
