use Rattle.c_tree.proofs.Names.{numbered, external}
use Rattle.c_tree.proofs.name.words_that_are_names.Goals as goal

pub returns-clause-numbered : goal.returns-clause-numbered
returns-clause-numbered c = numbered

pub returns-clause-external : goal.returns-clause-external
returns-clause-external c = external
