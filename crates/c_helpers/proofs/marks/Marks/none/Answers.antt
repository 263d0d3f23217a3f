use Rattle.c_helpers.proofs.HelperNumbers.{none_marked}
use Rattle.c_helpers.proofs.marks.Marks.none.Goals as goal

pub returns : goal.returns
returns c = none_marked
