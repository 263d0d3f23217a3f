use Rattle.c_prelude.proofs.Functions.{names_differ}
use Rattle.c_prelude.proofs.laws.names_of_helpers_differ.Goals as goal

pub returns : goal.returns
returns c = names_differ
