use Rattle.host_replay.specs.Reading.{empty, lines_of}
use Rattle.host_replay.proofs.Verdicts.{none_distinct, one_read, one_refused, read_or_refused}
use Rattle.host_replay.proofs.laws.one_verdict.Goals as goal

pub returns-clause-one_journal : goal.returns-clause-one_journal
returns-clause-one_journal c = λ text a b x y. one_read empty a b (lines_of text) none_distinct x y

pub returns-clause-one_line : goal.returns-clause-one_line
returns-clause-one_line c = λ text m n x y. one_refused (lines_of text) m n x y

pub returns-clause-not_both : goal.returns-clause-not_both
returns-clause-not_both c = λ text j n x y. read_or_refused j (lines_of text) n x y
