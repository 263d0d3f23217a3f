use Rattle.c_helpers.proofs.Common.{marked}
use Rattle.c_helpers.proofs.CalledHelpers.{filter_at}
use Rattle.c_helpers.proofs.needs.known.Goals as goal

pub loop-which-preserved : goal.loop-which-preserved
loop-which-preserved c =
    filter_at (marked c.args.marks.now) c.loop-which.list.items c.put_if.new.list.items c.args.all.now _ c.loop-which.which-index _
    c.has.result c.loop-which-test.true c.has.ensures c.in_ok-put_if.ensures c.loop-which.invariant
