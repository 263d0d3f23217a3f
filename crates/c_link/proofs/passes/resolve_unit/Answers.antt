use Rattle.c_link.proofs.Common.{map, sym, ◌∙◌, subst, mapped_at, item_of, unit_of, unresolved, IsRefusal, in_item, types_in}
use Rattle.c_link.proofs.FirstRefusal.{in_items}
use Rattle.c_link.proofs.Walks.{items_end, left_first, left_more, refused}
use Rattle.c_link.proofs.passes.resolve_unit.Goals as goal

pub returns-in-Err-clause-first : goal.returns-in-Err-clause-first
returns-in-Err-clause-first c =
    let refusals = unresolved (types_in c.args.table.now) c.args.u in
    let at = mapped_at item_of c.args.items.now c.loop-item.item-index c.item-item.result c.loop-item-test.true c.item-item.is in
    subst (IsRefusal c.in-Err.refusal) (sym (in_items refusals (unit_of c.args.items.now)))
    (refused c.in-Err.refusal _ _ _ (left_first (in_item refusals) (map item_of c.args.items.now) c.loop-item.item-index
    (item_of c.item-item.result) at c.loop-item.invariant) c.in-Err.ensures.first)

pub loop-item-preserved : goal.loop-item-preserved
loop-item-preserved c =
    let at = mapped_at item_of c.args.items.now c.loop-item.item-index c.item-item.result c.loop-item-test.true c.item-item.is in
    left_more (in_item (unresolved (types_in c.args.table.now) c.args.u)) (map item_of c.args.items.now) c.loop-item.item-index
    (item_of c.item-item.result) at c.in-Ok.ensures.resolved c.loop-item.invariant

pub returns-clause-resolved : goal.returns-clause-resolved
returns-clause-resolved c =
    let refusals = unresolved (types_in c.args.table.now) c.args.u in
    in_items refusals (unit_of c.args.items.now)
    ∙ items_end item_of (in_item refusals) c.args.items.now c.loop-item.item-index c.loop-item-test.false c.loop-item.invariant
