use Rattle.host_replay.specs.Reading.{empty, lines_of}
use Rattle.host_replay.proofs.Verdicts.{none_distinct, read_distinct}
use Rattle.host_replay.proofs.laws.journals_have_distinct_symbols.Goals as goal

pub returns : goal.returns
returns c = λ text j read. read_distinct empty j (lines_of text) none_distinct read
