use Rattle.c_check.proofs.Common.{◌≡◌, drop, is_some, list_all}
use Rattle.c_check.proofs.ours.have_names.Given as goal

abbrev pub invariant-loop-param : goal.invariant-loop-param
invariant-loop-param l = list_all (λ x. is_some x.1) (drop l.param-index l.params) ≡ list_all (λ x. is_some x.1) l.params
