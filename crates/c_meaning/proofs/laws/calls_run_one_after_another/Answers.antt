use Rattle.c_meaning.proofs.Fronts.{inits_give_none, stops_the_same, values_stay, one_value}
use Rattle.c_meaning.proofs.laws.calls_run_one_after_another.Goals as goal

pub returns-clause-inits : goal.returns-clause-inits
returns-clause-inits c = inits_give_none

pub returns-clause-stopped : goal.returns-clause-stopped
returns-clause-stopped c = stops_the_same

pub returns-clause-values : goal.returns-clause-values
returns-clause-values c = values_stay

pub returns-clause-one : goal.returns-clause-one
returns-clause-one c = one_value
