use Rattle.c_lex.proofs.Common.{[], ◌∷◌, ap, ◌∙◌, short_signs, sign_of}
use Rattle.c_lex.proofs.Words.{sign_is}
use Rattle.c_lex.proofs.front.one_sign.Goals as goal

pub returns : goal.returns
returns c = c.sign.ensures ∙ (ap sign_of c.find.ensures ∙ sign_is short_signs (c.args.byte ∷ []))
