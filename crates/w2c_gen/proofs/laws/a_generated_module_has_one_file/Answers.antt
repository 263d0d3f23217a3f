use Rattle.w2c_gen.proofs.Formed.{one_file, some_file}
use Rattle.w2c_gen.proofs.laws.a_generated_module_has_one_file.Goals as goal

pub returns-clause-some : goal.returns-clause-some
returns-clause-some c = some_file

pub returns-clause-one : goal.returns-clause-one
returns-clause-one c = one_file
