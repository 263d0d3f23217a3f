use Rattle.c_check.proofs.Common.{◌≡◌, drop, list_all, is_own_name}
use Rattle.c_check.proofs.ours.are_own_names.Given as goal

abbrev pub invariant-loop-variable : goal.invariant-loop-variable
invariant-loop-variable l =
    list_all (λ x. is_own_name x.name.now) (drop l.variable-index l.own) ≡ list_all (λ x. is_own_name x.name.now) l.own
