use Rattle.c_tree.proofs.NoFault.{no_fault}
use Rattle.c_tree.proofs.unit.spelled_texts_have_no_fault.Goals as goal

pub returns : goal.returns
returns c = no_fault
