use Rattle.c_check.proofs.Common.{◌≡◌, drop, list_all, is_value_type}
use Rattle.c_check.proofs.shapes.have_local_values.Given as goal

abbrev pub invariant-loop-local : goal.invariant-loop-local
invariant-loop-local l = list_all (λ x. is_value_type x.0) (drop l.local-index l.locals) ≡ list_all (λ x. is_value_type x.0) l.locals
