use Rattle.c_trim.proofs.Common.{◌≡◌, ◌<◌, map, length, refl, arith, length-map, item_of, reached_by}
use Rattle.w2c_base.proofs.Places.{mapped_at}
use Rattle.c_trim.proofs.Spread.{begin_next}
use Rattle.c_trim.proofs.reach.begin.Goals as goal

pub loop-i-preserved : goal.loop-i-preserved
loop-i-preserved c =
    let two = begin_next (map item_of c.args.items.now) c.loop-i.i (item_of c.index-items-i.result) (reached_by c.loop-i.marks)
    (reached_by c.begin_with.new.self)
    (mapped_at item_of c.args.items.now c.loop-i.i c.index-items-i.result c.loop-i-test.true c.index-items-i.is)
    c.in_ok-begin_with.ensures c.loop-i.invariant.reached c.loop-i.invariant.begun in
    record { reached = two.0; begun = two.1 }

pub returns-clause-begun : goal.returns-clause-begun
returns-clause-begun c j item less there starts =
    let long : length (map item_of c.args.items.now) ≡ length c.args.items.now = rw length-map refl in
    let short : j < c.loop-i.i = omega arith in
    c.loop-i.invariant.begun j item short there starts
