use Rattle.c_trim.proofs.Common.{◌-◌, ◌≤◌, map, length, item_of, AreReached, BegunTo, FollowedTo, reached_by}
use Rattle.c_trim.proofs.Spread.{cost}
use Rattle.c_trim.proofs.reach.reach_all.Given as goal

abbrev pub invariant-loop-followed : goal.invariant-loop-followed
invariant-loop-followed l = record {
  within : l.followed ≤ length l.marks.order.items;
  reached : AreReached (map item_of l.items) (reached_by l.marks);
  begun : BegunTo (map item_of l.items) (length (map item_of l.items)) (reached_by l.marks);
  followed : FollowedTo (map item_of l.items) l.followed (reached_by l.marks);
}

abbrev pub decreases-loop-followed : goal.decreases-loop-followed
decreases-loop-followed l = cost (reached_by l.marks) - l.followed
