use Rattle.crun_startup.proofs.Common.{◌≡◌, false, length, nat_eq, ◌∙◌, arith, nat_tests}
use Rattle.crun_startup.proofs.InitsFound.{no_single}
use Rattle.crun_startup.proofs.inits.takes_nothing.Goals as goal

pub returns-else-params-eq1 : goal.returns-else-params-eq1
returns-else-params-eq1 c =
    let n = length c.args.params.now in
    let h = c.if-params-eq1.false in
    let no : nat_eq n 1 ≡ false = grind (arith, nat_tests, h) in
    let none : n ≡ 1 → ⊥ = λ e. absurd (grind (arith, nat_tests, h, e)) in
    no ∙ no_single c.args.params.now none
