use Rattle.c_read.proofs.Once.{stops_once}
use Rattle.c_read.proofs.laws.one_fault.Goals as goal

pub returns : goal.returns
returns c text f g one other = stops_once one other
