use Rattle.c_tree.proofs.WellFormedUnits.{formed, well_formed}
use Rattle.c_tree.proofs.unit.well_formed_units_are_spelled.Goals as goal

pub returns-clause-formed : goal.returns-clause-formed
returns-clause-formed c = formed

pub returns-clause-well_formed : goal.returns-clause-well_formed
returns-clause-well_formed c = well_formed
