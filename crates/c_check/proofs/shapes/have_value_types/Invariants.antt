use Rattle.c_check.proofs.Common.{◌≡◌, drop, list_all, is_value_type}
use Rattle.c_check.proofs.shapes.have_value_types.Given as goal

abbrev pub invariant-loop-one : goal.invariant-loop-one
invariant-loop-one g l =
    list_all (λ x. is_value_type (g.T.Typed.its_type x)) (drop l.one-index l.all)
    ≡ list_all (λ x. is_value_type (g.T.Typed.its_type x)) l.all
