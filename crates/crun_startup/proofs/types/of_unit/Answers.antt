use Rattle.crun_startup.proofs.Common.{[], map, option_map, func_type_of, item_of, item_type}
use Rattle.crun_startup.proofs.Collected.{gathered_more, maps, put_one}
use Rattle.crun_startup.proofs.types.of_unit.Goals as goal

pub loop-item-preserved : goal.loop-item-preserved
loop-item-preserved c =
    gathered_more (map item_type) (maps item_type) item_of c.args.items.now [] _ _ c.loop-item.item-index c.item-item.result
    c.loop-item-test.true c.item-item.is
    (put_one (option_map func_type_of) c.in_ok-item_type.field-0 (item_type (item_of c.item-item.result)) c.loop-item.types.items _
    c.in_ok-push.ensures.items c.in_ok-item_type.ensures) c.loop-item.invariant
