use Rattle.journal_lines.proofs.Common.{◌≡◌, sym, ◌∙◌, arith, rules, decimal_injective}
use Rattle.journal_lines.proofs.values.i32_of.Goals as goal

pub returns-in-Err-clause-none : goal.returns-in-Err-clause-none
returns-in-Err-clause-none c = λ n small is.
    let same : n ≡ c.in-Some.number = decimal_injective n c.in-Some.number (omega (arith, small)) (search rules)
    (is ∙ sym c.in-Some.ensures.some) in
    search (rules, same)
