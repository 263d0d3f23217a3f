use Rattle.c_check.proofs.Common.{Some, ap, item_of, some_name}
use Rattle.c_check.proofs.Sets.{knows_put, knows_all}
use Rattle.c_check.proofs.names.declared_names.Goals as goal

pub loop-item-preserved : goal.loop-item-preserved
loop-item-preserved c =
    knows_put item_of some_name c.args.items.now c.loop-item.item-index c.item-item.result c.loop-item-test.true c.item-item.is
    c.loop-item.set c.put.new.set _
    (ap Some c.name.ensures) c.in_ok-put.ensures c.loop-item.invariant

pub returns : goal.returns
returns c = knows_all item_of some_name c.args.items.now c.loop-item.item-index c.loop-item.set c.loop-item-test.false c.loop-item.invariant
