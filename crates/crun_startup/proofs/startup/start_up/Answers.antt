use Rattle.crun_startup.proofs.Common.{map, subst, unit_of, Symbols, AreUnits}
use Rattle.crun_startup.proofs.CalledFound.{symbols_are}
use Rattle.crun_startup.proofs.TablesFound.{linked, unit_tables}
use Rattle.crun_startup.proofs.TypesFound.{types_are}
use Rattle.crun_startup.proofs.startup.start_up.Goals as goal

pub returns-clause-tables : goal.returns-clause-tables
returns-clause-tables c = unit_tables _ _ _ c.in_ok-units.ensures.units

pub returns-clause-linked : goal.returns-clause-linked
returns-clause-linked c p is have =
    let units = map unit_of c.args.linked.now.0 in
    let made = subst (λ (s : Symbols). AreUnits s units c.in_ok-units.units.items) c.in_ok-seen.ensures c.in_ok-units.ensures.units in
    linked p units c.args.linked.now.1 c.args.counts.now is have c.in_ok-units.ensures.checked _ c.in_ok-symbols.ensures
    c.in_ok-units.units.items made

pub returns-clause-types : goal.returns-clause-types
returns-clause-types c p is have =
    types_are p (map unit_of c.args.linked.now.0) c.args.linked.now.1 c.args.counts.now is have c.in_ok-units.ensures.checked
    c.in_ok-types.types
    c.in_ok-types.ensures.units c.in_ok-types.ensures.hosts

pub returns-clause-symbols : goal.returns-clause-symbols
returns-clause-symbols c p is have =
    let units = map unit_of c.args.linked.now.0 in
    rw c.in_ok-seen.ensures (symbols_are p units c.args.linked.now.1 c.args.counts.now is have _ c.in_ok-symbols.ensures)
