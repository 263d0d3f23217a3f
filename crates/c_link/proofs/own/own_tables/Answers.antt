use Rattle.c_link.proofs.Common.{◌+◌, map, take, sym, ◌∙◌, subst, take_all, length-map, mapped_at, unit_of, HaveOwn}
use Rattle.c_link.proofs.OwnNames.{none_own, own_push}
use Rattle.c_link.proofs.own.own_tables.Goals as goal

pub loop-unit-init : goal.loop-unit-init
loop-unit-init c = none_own _ c.new-tables.ensures.items

pub returns : goal.returns
returns c = subst (HaveOwn c.loop-unit.tables.items)
    (take_all c.loop-unit.unit-index (map unit_of c.args.units.now) (rw length-map c.loop-unit-test.false)) c.loop-unit.invariant

pub loop-unit-preserved : goal.loop-unit-preserved
loop-unit-preserved c =
    let units = map unit_of c.args.units.now in
    let i = c.loop-unit.unit-index in
    let unit = c.unit-item.result in
    let knows = rw (c.as_slice.ensures ∙ c.unit.ensures.unit) at c.in_ok-own_table.ensures in
    subst (λ ts. HaveOwn ts (take (i + 1) units)) (sym c.in_ok-push.ensures.items)
    (own_push c.loop-unit.tables.items units i c.in_ok-own_table.field-0 (unit_of unit)
    (mapped_at unit_of c.args.units.now i unit c.loop-unit-test.true c.unit-item.is) c.loop-unit.invariant knows)
