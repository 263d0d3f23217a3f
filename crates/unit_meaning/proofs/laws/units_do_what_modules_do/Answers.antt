use Rattle.unit_meaning.proofs.Whole as whole
use Rattle.unit_meaning.proofs.laws.units_do_what_modules_do.Goals as goal

pub returns : goal.returns
returns c = whole.units_do_what_modules_do c.inits_follow.ensures c.bodies_follow.ensures
