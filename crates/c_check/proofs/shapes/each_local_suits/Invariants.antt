use Rattle.c_check.proofs.Common.{◌≡◌, drop, list_all, number_suits}
use Rattle.c_check.proofs.shapes.each_local_suits.Given as goal

abbrev pub invariant-loop-local : goal.invariant-loop-local
invariant-loop-local l = list_all (λ x. number_suits x.0 x.2) (drop l.local-index l.locals) ≡ list_all (λ x. number_suits x.0 x.2) l.locals
