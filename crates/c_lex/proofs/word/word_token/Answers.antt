use Rattle.std.proofs.Common.{Some, None, ◌∙◌}
use Rattle.c_lex.proofs.Words.{word_is}
use Rattle.c_lex.proofs.word.word_token.Goals as goal

pub returns-in-Some : goal.returns-in-Some
returns-in-Some c = word_is c.args.word.now (Some c.in-Some.tok) c.in-Some.ensures

pub returns-in-None : goal.returns-in-None
returns-in-None c = c.other_token.ensures ∙ word_is c.args.word.now None c.in-None.ensures
