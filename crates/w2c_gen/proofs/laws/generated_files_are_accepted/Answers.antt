use Rattle.w2c_gen.proofs.Files.{generated_accepted, shortest_accepted}
use Rattle.w2c_gen.proofs.Formed.{file_is_small}
use Rattle.w2c_gen.proofs.laws.generated_files_are_accepted.Goals as goal

pub returns-clause-each : goal.returns-clause-each
returns-clause-each c = generated_accepted

pub returns-clause-shortest : goal.returns-clause-shortest
returns-clause-shortest c = shortest_accepted

pub returns-clause-small : goal.returns-clause-small
returns-clause-small c = file_is_small
