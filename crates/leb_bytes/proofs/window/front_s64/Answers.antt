use Rattle.leb_bytes.proofs.Common.{ℤ, Ok, sym, subst, ap, ◌∙◌, w64, to_z, of_z, AnswersSigned}
use Rattle.leb_bytes.proofs.Numbers.{s64_of-complete}
use Rattle.leb_bytes.proofs.OneByte.{kept_64, with_sign_64}
use Rattle.leb_bytes.proofs.window.front_s64.Goals as goal

pub returns-in-Some-clause-exact : goal.returns-in-Some-clause-exact
returns-in-Some-clause-exact c =
    let is = c.in-Some.ensures in
    subst (λ (n : ℤ). AnswersSigned 64 c.args.window.now (Ok (n, 1)))
    (sym (ap (λ (n : ℤ). to_z w64 (of_z w64 n)) c.from.ensures ∙ kept_64 c.in-Some.byte is.0))
    (with_sign_64 c.args.window.now c.in-Some.byte is.0 is.1 is.2)

pub returns-in-Some-clause-computed : goal.returns-in-Some-clause-computed
returns-in-Some-clause-computed c =
    sym (s64_of-complete c.args.window.now (Ok (to_z w64 (of_z w64 c.from.result), 1)) (returns-in-Some-clause-exact c))
