use Rattle.crun_startup.proofs.Common.{[], map, ap, ◌∙◌, seen_at, unit_of, item_type, types_in}
use Rattle.crun_startup.proofs.Collected.{gathered_next, maps, put_one}
use Rattle.crun_startup.proofs.types.of_units.Goals as goal

pub loop-unit-preserved : goal.loop-unit-preserved
loop-unit-preserved c =
    let items = unit_of c.unit.result.now in
    gathered_next (map (map item_type)) (maps (map item_type)) (map unit_of c.args.linked.now.0) [] _ _ c.loop-unit.unit items
    (seen_at unit_of c.args.linked.now.0 c.loop-unit.unit _ c.unit.ensures)
    (put_one types_in c.in_ok-of_unit.field-0 (map item_type items) c.loop-unit.lists.items _ c.in_ok-push.ensures.items
    (c.in_ok-of_unit.ensures ∙ ap (λ xs. map item_type (unit_of xs)) (c.as_slice.ensures ∙ c.unit-in-loop-unit.ensures.unit)))
    c.loop-unit.invariant
