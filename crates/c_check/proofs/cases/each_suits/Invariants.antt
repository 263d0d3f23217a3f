use Rattle.c_check.proofs.Common.{◌≡◌, drop, list_all, number_suits}
use Rattle.c_check.proofs.cases.each_suits.Given as goal

abbrev pub invariant-loop-case : goal.invariant-loop-case
invariant-loop-case l = list_all (λ x. number_suits l.t x.0) (drop l.case-index l.cases) ≡ list_all (λ x. number_suits l.t x.0) l.cases
