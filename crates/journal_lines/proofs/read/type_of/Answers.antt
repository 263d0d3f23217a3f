use Rattle.journal_lines.proofs.Common.{map, sym, ◌∙◌, texts, result_text, type_text}
use Rattle.journal_lines.proofs.Equals.{equals_same}
use Rattle.journal_lines.proofs.Items.{at_none}
use Rattle.journal_lines.proofs.read.type_of.Goals as goal

pub returns-in_default-result_of-clause-none : goal.returns-in_default-result_of-clause-none
returns-in_default-result_of-clause-none c = λ ty are.
    let same = equals_same (map type_text ty.params) (texts c.in-Some.front.now) (result_text ty.result) c.in-Some.last.now
    (sym are ∙ c.in-Some.ensures.some) in
    at_none c.result_of.result c.in_default-result_of.is c.result_of.ensures.none ty.result same.1

pub returns-in_default-2-clause-none : goal.returns-in_default-2-clause-none
returns-in_default-2-clause-none c = λ ty are.
    let same = equals_same (map type_text ty.params) (texts c.in-Some.front.now) (result_text ty.result) c.in-Some.last.now
    (sym are ∙ c.in-Some.ensures.some) in
    at_none _ c.in_default-2.is c.in_ok-params.ensures.none ty.params same.0
