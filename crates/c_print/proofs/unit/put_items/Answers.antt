use Rattle.c_print.proofs.Common.{rules, item_of}
use Rattle.c_print.proofs.Onto.{items_more}
use Rattle.c_print.proofs.unit.put_items.Goals as goal

pub loop-item-preserved : goal.loop-item-preserved
loop-item-preserved c =
    items_more item_of _ _ _ c.args.items.now c.loop-item.item-index c.item-item.result c.loop-item-test.true (search rules)
    (search rules) c.loop-item.invariant
