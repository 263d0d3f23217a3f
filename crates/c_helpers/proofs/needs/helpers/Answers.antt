use Rattle.c_helpers.proofs.CalledHelpers.{known_helpers}
use Rattle.c_helpers.proofs.needs.helpers.Goals as goal

pub returns : goal.returns
returns c = known_helpers c.called-marks.result c.args.m.now c.in_ok-list.list.items c.called-marks.ensures c.in_ok-list.ensures
