use Rattle.crun_startup.proofs.Common.{[], filter_map, item_of, memory_value}
use Rattle.crun_startup.proofs.Collected.{filters, gathered_end, gathered_more}
use Rattle.crun_startup.proofs.objects.memories.Goals as goal

pub loop-item-preserved : goal.loop-item-preserved
loop-item-preserved c =
    gathered_more (filter_map memory_value) (filters memory_value) item_of c.args.items.now [] _ _ c.loop-item.item-index c.item-item.result
    c.loop-item-test.true c.item-item.is c.in_ok-put_memory.ensures c.loop-item.invariant

pub returns : goal.returns
returns c =
    gathered_end (filter_map memory_value) (filters memory_value) item_of c.args.items.now
    [] _ c.loop-item.item-index c.loop-item-test.false
    c.loop-item.invariant
