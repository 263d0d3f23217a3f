use Rattle.c_merge.proofs.Common.{map, Some, sym, ap, ◌∙◌, unit_of, new_names}
use Rattle.w2c_base.proofs.Places.{seen_at}
use Rattle.c_merge.proofs.Joined.{units_next}
use Rattle.c_merge.proofs.merging.merged_items.Goals as goal

pub loop-unit-preserved : goal.loop-unit-preserved
loop-unit-preserved c =
    units_next new_names c.loop-unit.unit (map unit_of c.args.linked.now.0) (unit_of c.as_slice.result.now)
    (unit_of c.loop-unit.one) (unit_of c.put_items.new.one)
    (seen_at unit_of c.args.linked.now.0 c.loop-unit.unit c.unit.result.now c.unit.ensures
    ∙ ap (λ xs. Some (unit_of xs)) (sym (c.as_slice.ensures ∙ c.unit-in-loop-unit.ensures.unit)))
    c.in_ok-put_items.ensures c.loop-unit.invariant
