use Rattle.journal_lines.proofs.Single.{one_line}
use Rattle.journal_lines.proofs.laws.one_line.Goals as goal

pub returns : goal.returns
returns c = one_line
