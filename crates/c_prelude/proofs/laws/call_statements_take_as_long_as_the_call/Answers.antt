use Rattle.c_prelude.proofs.CallStatements.{statement_comes_between}
use Rattle.c_prelude.proofs.laws.call_statements_take_as_long_as_the_call.Goals as goal

pub returns : goal.returns
returns c = statement_comes_between
