use Rattle.leb_bytes.proofs.Common.{ℕ, Ok, sym, subst, AnswersUnsigned}
use Rattle.leb_bytes.proofs.Numbers.{u32_of-complete}
use Rattle.leb_bytes.proofs.OneByte.{without_sign}
use Rattle.leb_bytes.proofs.window.front_u32.Goals as goal

pub returns-in-Some-clause-exact : goal.returns-in-Some-clause-exact
returns-in-Some-clause-exact c =
    let is = c.in-Some.ensures in
    subst (λ (n : ℕ). AnswersUnsigned 32 c.args.window.now (Ok (n, 1))) (sym c.from.ensures)
    (without_sign c.args.window.now c.in-Some.byte is.0 is.1 is.2)

pub returns-in-Some-clause-computed : goal.returns-in-Some-clause-computed
returns-in-Some-clause-computed c =
    sym (u32_of-complete c.args.window.now (Ok (c.from.result, 1)) (returns-in-Some-clause-exact c))
