use Rattle.c_trim.proofs.Common.{map, item_of, AreReached, BegunTo, reached_by}
use Rattle.c_trim.proofs.reach.begin.Given as goal

abbrev pub invariant-loop-i : goal.invariant-loop-i
invariant-loop-i l = record {
  reached : AreReached (map item_of l.items) (reached_by l.marks);
  begun : BegunTo (map item_of l.items) l.i (reached_by l.marks);
}
