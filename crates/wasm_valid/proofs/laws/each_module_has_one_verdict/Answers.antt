use Rattle.wasm_valid.proofs.Verdicts.{some_verdict, one_verdict, accepted, valid}
use Rattle.wasm_valid.proofs.laws.each_module_has_one_verdict.Goals as goal

pub returns-clause-some : goal.returns-clause-some
returns-clause-some c = some_verdict

pub returns-clause-one : goal.returns-clause-one
returns-clause-one c = one_verdict

pub returns-clause-accepted : goal.returns-clause-accepted
returns-clause-accepted c = accepted

pub returns-clause-valid : goal.returns-clause-valid
returns-clause-valid c = valid
