use Rattle.c_unit.proofs.Common.{ap, items}
use Rattle.c_unit.proofs.unit_items.UnitItems.new.Goals as goal

pub returns-clause-left : goal.returns-clause-left
returns-clause-left c = ap items c.in_ok-source.ensures
