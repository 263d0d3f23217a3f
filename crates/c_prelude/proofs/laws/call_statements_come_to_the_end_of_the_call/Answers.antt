use Rattle.c_prelude.proofs.CallStatements.{statement_comes_to}
use Rattle.c_prelude.proofs.laws.call_statements_come_to_the_end_of_the_call.Goals as goal

pub returns : goal.returns
returns c = statement_comes_to
