use Rattle.body_check.proofs.FirstFaults.{one_or_other, exclusive, one_fault}
use Rattle.wasm_valid.proofs.laws.each_body_has_a_typing_or_one_first_fault.Goals as goal

pub returns-clause-either : goal.returns-clause-either
returns-clause-either c = one_or_other

pub returns-clause-not_both : goal.returns-clause-not_both
returns-clause-not_both c = exclusive

pub returns-clause-one : goal.returns-clause-one
returns-clause-one c = one_fault
