use Rattle.journal_lines.proofs.Common.{IsAscii, subst, IsAscii-decimal}
use Rattle.std.proofs.lemmas.Str.{IsUtf8-from_ascii}
use Rattle.journal_lines.proofs.number.value.Goals as goal

pub returns-in-Err-clause-none : goal.returns-in-Err-clause-none
returns-in-Err-clause-none c = λ n small is.
    c.in-Err.ensures.cases.0 (IsUtf8-from_ascii c.args.word.now (subst IsAscii is (IsAscii-decimal n small)))
