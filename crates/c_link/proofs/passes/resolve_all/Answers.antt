use Rattle.c_link.proofs.Common.{◌≡◌, map, slice_get, Some, flat_map, sym, ap, ◌∙◌, subst, numbered_at, mapped_at, numbered, unit_of}
use Rattle.c_link.proofs.Common.{external_functions, first, unresolved, IsRefusal, types_in}
use Rattle.c_link.proofs.FirstRefusal.{unresolved_in, unresolved_units}
use Rattle.c_link.proofs.Walks.{left_first, left_more, refused, units_end}
use Rattle.c_link.proofs.passes.resolve_all.Goals as goal

pub returns-in-Err-clause-first : goal.returns-in-Err-clause-first
returns-in-Err-clause-first c =
    let found = types_in c.args.table.now in
    let units = map unit_of c.args.units.now in
    let u = c.loop-u.u in
    let same = c.as_slice.ensures ∙ c.unit.ensures.unit in
    let at : slice_get units u ≡ Some (unit_of c.index-units-u.result) =
    mapped_at unit_of c.args.units.now u c.index-units-u.result c.loop-u-test.true c.index-units-u.is in
    subst (IsRefusal c.in-Err.refusal) (sym (unresolved_units found units))
    (refused c.in-Err.refusal _ _ _ (left_first (unresolved_in found) (numbered units) u (u, unit_of c.index-units-u.result)
    (numbered_at units u (unit_of c.index-units-u.result) at) c.loop-u.invariant) (rw same at c.in-Err.ensures.first))

pub loop-u-preserved : goal.loop-u-preserved
loop-u-preserved c =
    let found = types_in c.args.table.now in
    let units = map unit_of c.args.units.now in
    let u = c.loop-u.u in
    let same = c.as_slice.ensures ∙ c.unit.ensures.unit in
    let at : slice_get units u ≡ Some (unit_of c.index-units-u.result) =
    mapped_at unit_of c.args.units.now u c.index-units-u.result c.loop-u-test.true c.index-units-u.is in
    left_more (unresolved_in found) (numbered units) u (u, unit_of c.index-units-u.result)
    (numbered_at units u (unit_of c.index-units-u.result) at)
    (ap (λ items. first (flat_map (unresolved found u) (external_functions (unit_of items)))) (sym same) ∙ c.in-Ok.ensures.resolved)
    c.loop-u.invariant

pub returns-clause-resolved : goal.returns-clause-resolved
returns-clause-resolved c =
    unresolved_units (types_in c.args.table.now) (map unit_of c.args.units.now)
    ∙ units_end unit_of (unresolved_in (types_in c.args.table.now)) c.args.units.now c.loop-u.u c.loop-u-test.false c.loop-u.invariant
