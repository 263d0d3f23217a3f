use Rattle.wasm_valid.proofs.Files.{some_file_verdict, one_file_verdict}
use Rattle.wasm_valid.proofs.laws.each_file_has_one_verdict.Goals as goal

pub returns-clause-some : goal.returns-clause-some
returns-clause-some c = some_file_verdict

pub returns-clause-one : goal.returns-clause-one
returns-clause-one c = one_file_verdict
