use Rattle.crun_startup.proofs.Common.{[], filter_map, item_of, table_value}
use Rattle.crun_startup.proofs.Collected.{filters, gathered_end, gathered_more}
use Rattle.crun_startup.proofs.objects.tables.Goals as goal

pub loop-item-preserved : goal.loop-item-preserved
loop-item-preserved c names =
    gathered_more (filter_map table_value) (filters table_value) item_of c.args.items.now [] _ _ c.loop-item.item-index c.item-item.result
    c.loop-item-test.true c.item-item.is (c.in_ok-put_table.ensures names) (c.loop-item.invariant names)

pub returns : goal.returns
returns c names =
    gathered_end (filter_map table_value) (filters table_value) item_of c.args.items.now [] _ c.loop-item.item-index c.loop-item-test.false
    (c.loop-item.invariant names)
