use Rattle.journal_lines.proofs.Common.{ap, ◌∙◌, texts}
use Rattle.journal_lines.proofs.Texts.{said, unsaid}
use Rattle.journal_lines.proofs.read.read_line.Goals as goal

pub returns-clause-some : goal.returns-clause-some
returns-clause-some c =
    said c.args.text.now (texts c.as_slice.result.now) c.line_of.result
    (ap texts c.as_slice.ensures.value ∙ c.in_ok-words.ensures) c.line_of.ensures.some

pub returns-clause-none : goal.returns-clause-none
returns-clause-none c =
    unsaid c.args.text.now (texts c.as_slice.result.now) c.line_of.result
    (ap texts c.as_slice.ensures.value ∙ c.in_ok-words.ensures) c.line_of.ensures.none
