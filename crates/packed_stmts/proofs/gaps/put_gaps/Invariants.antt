use Rattle.packed_stmts.proofs.Common.{◌≡◌, map, take, stmt_of}
use Rattle.packed_stmts.specs.Listed.{with_gaps}
use Rattle.packed_stmts.proofs.gaps.put_gaps.Given as goal

abbrev pub invariant-loop-gap : goal.invariant-loop-gap
invariant-loop-gap l = record {
  place : l.place ≡ l.gap-index;
  stmts : map stmt_of l.stmts.items ≡ with_gaps (take l.gap-index l.gaps) (map stmt_of l.fn.stmts.items);
}
