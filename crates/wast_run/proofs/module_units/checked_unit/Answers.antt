use Rattle.wast_run.proofs.Common.{sym, subst, NamedModule, items}
use Rattle.c_tree.specs.FirstBroken.{KeepsRules}
use Rattle.c_tree.specs.Spelled.{Formed}
use Rattle.wast_run.proofs.module_units.checked_unit.Goals as goal

pub known-requires-clause-formed : goal.known-requires-clause-formed
known-requires-clause-formed c =
    let m : NamedModule = record { name = c.args.name.now; tree = c.args.«module».now } in
    let proper = c.units_are_proper.ensures m c.is_accepted.ensures in
    subst Formed (sym c.in-Ok.ensures) (c.well_formed_units_are_spelled.ensures.formed (items m) proper.well_formed)

pub known-requires-clause-kept : goal.known-requires-clause-kept
known-requires-clause-kept c =
    let proper = c.units_are_proper.ensures (record { name = c.args.name.now; tree = c.args.«module».now }) c.is_accepted.ensures in
    subst KeepsRules (sym c.in-Ok.ensures) proper.keeps_rules
