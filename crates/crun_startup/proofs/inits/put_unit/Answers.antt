use Rattle.crun_startup.proofs.Common.{filter_map, item_of, init_entry}
use Rattle.crun_startup.proofs.Collected.{filters, numbered_end, numbered_more}
use Rattle.crun_startup.proofs.inits.put_unit.Goals as goal

pub loop-i-preserved : goal.loop-i-preserved
loop-i-preserved c =
    numbered_more (filter_map (init_entry c.args.unit)) (filters (init_entry c.args.unit)) item_of c.args.items.now _ _ _ c.loop-i.i
    c.index-items-i.result c.loop-i-test.true c.index-items-i.is c.in_ok-put_item.ensures c.loop-i.invariant

pub returns : goal.returns
returns c =
    numbered_end (filter_map (init_entry c.args.unit)) (filters (init_entry c.args.unit)) item_of c.args.items.now _ _ c.loop-i.i
    c.loop-i-test.false c.loop-i.invariant
