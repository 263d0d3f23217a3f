use Rattle.journal_lines.proofs.Common.{sym, ◌∙◌, parse-decimal}
use Rattle.journal_lines.proofs.number.text_value.Goals as goal

pub returns-in-Ok-clause-some : goal.returns-in-Ok-clause-some
returns-in-Ok-clause-some c = λ n small is.
    let gives = parse-decimal 64 n c.args.text.now c.parse.result small small (sym is) c.parse.ensures.value.0 in
    let both = sym c.in-Ok.is ∙ gives in
    cc

pub returns-in-Err-clause-none : goal.returns-in-Err-clause-none
returns-in-Err-clause-none c = λ n small is.
    let gives = parse-decimal 64 n c.args.text.now c.parse.result small small (sym is) c.parse.ensures.value.0 in
    let both = sym c.in-Err.is ∙ gives in
    cc
