use Rattle.w2c_sim.proofs.Accepting.{one_module, verdict_on}
use Rattle.w2c_sim.proofs.Spelling.{spells_unit}
use Rattle.w2c_sim.proofs.laws.texts_spell_units.Goals as goal

pub returns-clause-one : goal.returns-clause-one
returns-clause-one c = one_module

pub returns-clause-accepted : goal.returns-clause-accepted
returns-clause-accepted c = verdict_on

pub returns-clause-unit : goal.returns-clause-unit
returns-clause-unit c = spells_unit c.units_are_proper.ensures
