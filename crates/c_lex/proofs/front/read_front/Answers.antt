use Rattle.c_lex.proofs.Common.{◌≡◌, true, false, slice_index, rules, is_blank, is_digit, is_letter, token_of}
use Rattle.c_lex.proofs.Runs.{word_front, number_front}
use Rattle.c_lex.proofs.front.read_front.Goals as goal

pub returns-then-is_letter-clause-value : goal.returns-then-is_letter-clause-value
returns-then-is_letter-clause-value c =
    let blank : is_blank (slice_index c.args.bytes.now 0) ≡ false = search rules in
    let letter : is_letter (slice_index c.args.bytes.now 0) ≡ true = search rules in
    word_front c.args.bytes.now c.split_at.result.1.now c.run_len-n.result
    (token_of c.word_token.result) c.requires c.split_at.ensures.back c.run_len-n.ensures.within c.run_len-n.ensures.taken
    c.word_token.ensures blank letter

pub returns-then-is_digit-clause-value : goal.returns-then-is_digit-clause-value
returns-then-is_digit-clause-value c =
    let blank : is_blank (slice_index c.args.bytes.now 0) ≡ false = search rules in
    let letter : is_letter (slice_index c.args.bytes.now 0) ≡ false = search rules in
    let digit : is_digit (slice_index c.args.bytes.now 0) ≡ true = search rules in
    number_front c.args.bytes.now c.split_at.result.1.now c.run_len-n-then-is_digit.result
    (token_of c.run_token.result) c.requires c.split_at.ensures.back c.run_len-n-then-is_digit.ensures.within
    c.run_len-n-then-is_digit.ensures.taken c.run_token.ensures blank letter digit
