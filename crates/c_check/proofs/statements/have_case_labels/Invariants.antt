use Rattle.c_check.proofs.Common.{◌≡◌, drop, is_some, list_all, named}
use Rattle.c_check.proofs.statements.have_case_labels.Given as goal

abbrev pub invariant-loop-case : goal.invariant-loop-case
invariant-loop-case l =
    list_all (λ x. is_some (named x.1 l.labels)) (drop l.case-index l.cases) ≡ list_all (λ x. is_some (named x.1 l.labels)) l.cases
