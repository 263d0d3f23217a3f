use Rattle.journal_lines.proofs.Common.{map, sym, ◌∙◌, reply_of, reply_text, texts, number_text}
use Rattle.journal_lines.proofs.Equals.{equals_same}
use Rattle.journal_lines.proofs.Items.{at_none}
use Rattle.journal_lines.proofs.read.call_of.Goals as goal

pub returns-in_default-reply_of-clause-none : goal.returns-in_default-reply_of-clause-none
returns-in_default-reply_of-clause-none c = λ args reply numbers given are.
    let same = equals_same (map number_text args) (texts c.in-Some.front.now) (reply_text (reply_of reply)) c.in-Some.last.now
    (sym are ∙ c.in-Some.ensures.some) in
    at_none c.reply_of.result c.in_default-reply_of.is c.reply_of.ensures.none reply given same.1

pub returns-in_default-2-clause-none : goal.returns-in_default-2-clause-none
returns-in_default-2-clause-none c = λ args reply numbers given are.
    let same = equals_same (map number_text args) (texts c.in-Some.front.now) (reply_text (reply_of reply)) c.in-Some.last.now
    (sym are ∙ c.in-Some.ensures.some) in
    at_none _ c.in_default-2.is c.in_ok-args.ensures.none args numbers same.0
