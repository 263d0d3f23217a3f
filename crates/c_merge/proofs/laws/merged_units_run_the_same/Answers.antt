use Rattle.c_merge.proofs.Common.{runs_same, calls_fit, as_one, merge_names}
use Rattle.c_merge.proofs.OneLinks.{one_renames}
use Rattle.c_merge.proofs.laws.merged_units_run_the_same.Goals as goal

pub returns-clause-fits : goal.returns-clause-fits
returns-clause-fits c = λ p are call. calls_fit (merge_names p) p (as_one p) (one_renames p are) call

pub returns-clause-runs : goal.returns-clause-runs
returns-clause-runs c = λ p are calls m replies. runs_same (merge_names p) p (as_one p) (one_renames p are) calls m replies
