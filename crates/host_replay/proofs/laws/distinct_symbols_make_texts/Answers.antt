use Rattle.host_replay.proofs.Distinct.{symbols_distinct}
use Rattle.host_replay.proofs.laws.distinct_symbols_make_texts.Goals as goal

pub returns : goal.returns
returns c = symbols_distinct
