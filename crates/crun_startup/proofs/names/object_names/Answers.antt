use Rattle.crun_startup.proofs.Common.{[], filter_map, item_of, object_name}
use Rattle.crun_startup.proofs.Collected.{filters, gathered_end, gathered_more}
use Rattle.crun_startup.proofs.names.object_names.Goals as goal

pub loop-item-preserved : goal.loop-item-preserved
loop-item-preserved c =
    gathered_more (filter_map (object_name c.args.kind)) (filters (object_name c.args.kind)) item_of c.args.items.now
    [] _ _ c.loop-item.item-index c.item-item.result
    c.loop-item-test.true c.item-item.is c.in_ok-put_object_name.ensures c.loop-item.invariant

pub returns : goal.returns
returns c =
    gathered_end (filter_map (object_name c.args.kind)) (filters (object_name c.args.kind)) item_of c.args.items.now
    [] _ c.loop-item.item-index c.loop-item-test.false
    c.loop-item.invariant
