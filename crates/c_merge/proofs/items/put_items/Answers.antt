use Rattle.c_merge.proofs.Common.{item_of, new_names}
use Rattle.c_renaming.specs.Renamed as renamed
use Rattle.c_merge.proofs.Joined.{pushed}
use Rattle.c_merge.proofs.items.put_items.Goals as goal

pub loop-item-preserved : goal.loop-item-preserved
loop-item-preserved c =
    pushed item_of item_of (renamed.item new_names c.args.unit) c.args.items.now c.loop-item.item-index c.item-item.result
    c.in_ok-new_item.field-0 _ _ _
    c.loop-item-test.true c.item-item.is c.in_ok-push.ensures.ok c.in_ok-new_item.ensures c.loop-item.invariant
