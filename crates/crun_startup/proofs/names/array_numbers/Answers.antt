use Rattle.crun_startup.proofs.Common.{Some, sym, ap, ◌∙◌, item_of, enters_next, mapped_twice, array_name}
use Rattle.crun_startup.proofs.names.array_numbers.Goals as goal

pub loop-i-preserved : goal.loop-i-preserved
loop-i-preserved c =
    enters_next _ _ c.loop-i.i _ _
    (mapped_twice array_name item_of c.args.items.now c.loop-i.i c.index-items-i.result c.loop-i-test.true c.index-items-i.is
    ∙ ap Some (sym c.array_name.ensures)) c.in_ok-enter.ensures c.loop-i.invariant
