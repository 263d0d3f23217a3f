use Rattle.c_lex.proofs.Common.{sym, ap, ◌∙◌, is_digit, number_token, run}
use Rattle.c_lex.proofs.Runs.{past_is}
use Rattle.c_lex.proofs.front.run_token.Goals as goal

pub returns : goal.returns
returns c =
    let n = c.run_len-n.result in
    let e = past_is is_digit c.args.bytes.now n c.run_len-n.ensures.within c.run_len-n.ensures.taken in
    c.number_token.ensures ∙ ap (λ d. number_token d c.split_at.result.1.now) (c.split_at.ensures.front ∙ c.run_len-n.ensures.taken)
    ∙ ap (λ d. number_token (run is_digit c.args.bytes.now) d) (c.split_at.ensures.back ∙ sym e)
