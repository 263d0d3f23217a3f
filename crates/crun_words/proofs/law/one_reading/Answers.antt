use Rattle.crun_words.proofs.InputStops.{one_reading}
use Rattle.crun_words.proofs.law.one_reading.Goals as goal

pub returns : goal.returns
returns c = one_reading
