use Rattle.c_unit.proofs.Common.{ap, Function, module_of}
use Rattle.c_unit.proofs.Standing.{init_there, init_past}
use Rattle.c_unit.proofs.unit_items.UnitItems.at_init.Goals as goal

pub returns-in_ok-init_func : goal.returns-in_ok-init_func
returns-in_ok-init_func c =
    init_there (module_of c.args.self.now.source) c.args.n _ c.if-n-eq0.true (ap Function c.in_ok-init_func.ensures)

pub returns-else-n-eq0 : goal.returns-else-n-eq0
returns-else-n-eq0 c = init_past (module_of c.args.self.now.source) c.args.n c.if-n-eq0.false
