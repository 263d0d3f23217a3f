use Rattle.crun_words.proofs.InputStops.{one_journal_reading}
use Rattle.crun_words.proofs.law.one_journal_reading.Goals as goal

pub returns : goal.returns
returns c = one_journal_reading
