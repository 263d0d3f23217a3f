use Rattle.c_link.proofs.Common.{map, length-map, mapped_at, item_of}
use Rattle.c_link.proofs.OwnNames.{knows_next, knows_all}
use Rattle.c_link.proofs.own.own_table.Goals as goal

pub loop-item-preserved : goal.loop-item-preserved
loop-item-preserved c q =
    knows_next q (map item_of c.args.items.now) c.loop-item.item-index (item_of c.item-item.result) _ _
    (mapped_at item_of c.args.items.now c.loop-item.item-index c.item-item.result c.loop-item-test.true c.item-item.is)
    (c.in_ok-enter_item.ensures q) (c.loop-item.invariant q)

pub returns : goal.returns
returns c q = knows_all q (map item_of c.args.items.now) c.loop-item.item-index _ (rw length-map c.loop-item-test.false)
    (c.loop-item.invariant q)
