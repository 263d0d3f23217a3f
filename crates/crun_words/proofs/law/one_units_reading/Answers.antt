use Rattle.crun_words.proofs.InputStops.{one_units_reading}
use Rattle.crun_words.proofs.law.one_units_reading.Goals as goal

pub returns : goal.returns
returns c = one_units_reading
