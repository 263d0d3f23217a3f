use Rattle.c_check.proofs.Common.{◌≡◌, not, drop, is_some, list_all, named}
use Rattle.c_check.proofs.ours.are_in_none.Given as goal

abbrev pub invariant-loop-variable : goal.invariant-loop-variable
invariant-loop-variable l =
    list_all (λ x. not (is_some (named x.name.now l.names))) (drop l.variable-index l.own)
    ≡ list_all (λ x. not (is_some (named x.name.now l.names))) l.own
