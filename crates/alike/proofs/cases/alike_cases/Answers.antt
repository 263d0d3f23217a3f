use Rattle.std.proofs.Common.{◌∷◌, ap, arith}
use Rattle.std.proofs.lemmas.Fmt.{decimal_digit}
use Rattle.alike.proofs.cases.alike_cases.Goals as goal

pub returns-clause-name_of_a_global : goal.returns-clause-name_of_a_global
returns-clause-name_of_a_global c = ap (λ digits. 103 ∷ digits) (decimal_digit 5 (omega arith))
