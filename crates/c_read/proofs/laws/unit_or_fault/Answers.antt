use Rattle.c_read.proofs.Whole as whole
use Rattle.c_read.proofs.laws.unit_or_fault.Goals as goal

pub returns : goal.returns
returns c text = whole.unit_or_fault text
