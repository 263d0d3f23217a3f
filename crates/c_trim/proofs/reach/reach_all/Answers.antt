use Rattle.c_trim.proofs.Common.{ℕ, ◌<◌, ◌≤◌, map, length, slice_get, arith, item_of, functions_at, reached_by}
use Rattle.c_trim.proofs.Spread.{follow, longer, smaller, still_begun}
use Rattle.c_trim.proofs.reach.reach_all.Goals as goal

pub loop-followed-smaller : goal.loop-followed-smaller
loop-followed-smaller c =
    let less : c.loop-followed.followed < length c.loop-followed.marks.order.items = omega arith in
    smaller c.args.table.now (functions_at (map item_of c.args.items.now)
    (slice_get c.loop-followed.marks.order.items c.loop-followed.followed))
    (reached_by c.loop-followed.marks) (reached_by c.follow.new.self) c.loop-followed.followed less c.in_ok-follow.ensures

pub loop-followed-preserved : goal.loop-followed-preserved
loop-followed-preserved c =
    let unit = map item_of c.args.items.now in
    let old = reached_by c.loop-followed.marks in
    let new = reached_by c.follow.new.self in
    let k : ℕ = c.loop-followed.followed in
    let names = functions_at unit (slice_get c.loop-followed.marks.order.items k) in
    let less : k < length c.loop-followed.marks.order.items = omega arith in
    let more : length c.loop-followed.marks.order.items ≤ length c.follow.new.self.order.items =
    longer c.args.table.now names old new c.in_ok-follow.ensures in
    let two = follow unit c.args.table.now c.requires k old new less c.in_ok-follow.ensures c.loop-followed.invariant.reached
    c.loop-followed.invariant.followed in
    record {
      within = omega arith;
      reached = two.0;
      begun = still_begun unit c.args.table.now names (length unit) old new c.in_ok-follow.ensures c.loop-followed.invariant.begun;
      followed = two.1;
    }
