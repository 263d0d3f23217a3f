use Rattle.c_init.proofs.Common.{◌≡◌, drop}
use Rattle.c_init.specs.Portions.{elements_behind}
use Rattle.c_init.proofs.pieces.behind.Given as goal

-- so many are still to be passed
abbrev pub invariant-loop-segment : goal.invariant-loop-segment
invariant-loop-segment l = record {
  at : l.index ≡ l.segment-index;
  so_far : drop l.left (elements_behind l.number (drop l.segment-index l.segments)) ≡ drop l.count (elements_behind l.start l.segments);
}
