use Rattle.std.proofs.Common.{◌≡◌, codes, false, rules, bytes_eq}
use Rattle.journal_lines.proofs.Equals.{around, not_around}
use Rattle.journal_lines.proofs.lists.around_equals.Goals as goal

pub returns-then-eq-clause-some : goal.returns-then-eq-clause-some
returns-then-eq-clause-some c =
    let is : c.in-Some-split_last.sign.now.now ≡ codes "=" = search rules in
    around c.args.words.now c.in-Some.rest.now c.in-Some-split_last.front.now c.in-Some.last.now c.in-Some-split_last.sign.now
    c.in-Some.ensures.cases.0 c.in-Some-split_last.ensures.cases.0 is

pub returns-else-eq-clause-none : goal.returns-else-eq-clause-none
returns-else-eq-clause-none c =
    let differs : bytes_eq c.in-Some-split_last.sign.now.now (codes "=") ≡ false = search rules in
    not_around c.args.words.now c.in-Some.rest.now c.in-Some-split_last.front.now c.in-Some.last.now c.in-Some-split_last.sign.now
    c.in-Some.ensures.cases.0 c.in-Some-split_last.ensures.cases.0 differs
