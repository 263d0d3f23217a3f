use Rattle.c_lex.proofs.Common.{[], ◌∷◌, ap, ◌∙◌, long_signs, sign_of}
use Rattle.c_lex.proofs.Words.{sign_is}
use Rattle.c_lex.proofs.front.two_sign.Goals as goal

pub returns : goal.returns
returns c = ap sign_of c.find.ensures ∙ sign_is long_signs (c.args.first ∷ c.args.second ∷ [])
