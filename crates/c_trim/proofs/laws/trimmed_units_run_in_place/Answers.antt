use Rattle.c_trim.proofs.InPlace.{in_place}
use Rattle.c_trim.proofs.laws.trimmed_units_run_in_place.Goals as goal

pub returns : goal.returns
returns c = in_place
