use Rattle.w2c_sim.proofs.Choosing.{translation_theorem}
use Rattle.w2c_sim.proofs.laws.linked_units_do_what_modules_do.Goals as goal

pub returns : goal.returns
returns c = translation_theorem c.units_do_what_modules_do.ensures c.units_of_a_linked_set_link.ensures.link c.units_are_proper.ensures
