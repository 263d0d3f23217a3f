use Rattle.wast_run.proofs.Comes.{enough_steps, runs_alike}
use Rattle.wast_run.proofs.runs.units_come_to_what_modules_come_to.Goals as goal

pub returns-clause-alike : goal.returns-clause-alike
returns-clause-alike c = runs_alike c.units_do_what_modules_do.ensures c.larger_budgets_give_the_same_run-2.ensures.longer

pub returns-clause-enough : goal.returns-clause-enough
returns-clause-enough c = enough_steps c.units_do_what_modules_do.ensures c.larger_budgets_give_the_same_run.ensures.longer
