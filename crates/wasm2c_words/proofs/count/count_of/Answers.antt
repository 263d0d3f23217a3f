use Rattle.wasm2c_words.proofs.Common.{◌≡◌, true, rules, is_decimal}
use Rattle.wasm2c_words.proofs.Counts.{never_refused}
use Rattle.wasm2c_words.proofs.count.count_of.Goals as goal

pub returns-in-Err : goal.returns-in-Err
returns-in-Err c =
    let is : is_decimal 5 c.args.text.now ≡ true = search rules in
    absurd (never_refused c.args.text.now c.in-Err.field-0 c.parse.result (search rules) is (search rules))
