use Rattle.std.proofs.Common.{refl}
use Rattle.std.specs.Fmt.{digits}
use Rattle.journal_lines.proofs.laws.line_cases.Goals as goal

pub returns-clause-call : goal.returns-clause-call
unfolding digits
returns-clause-call c = refl

pub returns-clause-trap : goal.returns-clause-trap
unfolding digits
returns-clause-trap c = refl
