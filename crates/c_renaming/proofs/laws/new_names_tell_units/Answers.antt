use Rattle.c_renaming.proofs.NewNames.{new_names, primitives_outside}
use Rattle.c_renaming.proofs.laws.new_names_tell_units.Goals as goal

pub returns-clause-tell : goal.returns-clause-tell
returns-clause-tell c = new_names

pub returns-clause-primitives : goal.returns-clause-primitives
returns-clause-primitives c = primitives_outside
