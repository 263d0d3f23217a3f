use Rattle.packed_stmts.proofs.Common.{◌+◌, map, ap, rules, stmt_of}
use Rattle.packed_stmts.proofs.GapLists.{put_next, put_enough}
use Rattle.packed_stmts.proofs.gaps.put_gaps.Goals as goal

pub loop-gap-preserved : goal.loop-gap-preserved
loop-gap-preserved c = record {
  place = ap (λ k. k + 1) c.loop-gap.invariant.place;
  stmts = put_next c.args.gaps.now c.loop-gap.gap-index c.loop-gap.place _ c.loop-gap.stmts.items c.put_gap_if.new.stmts.items
      (map stmt_of c.args.stmts.now.items) c.loop-gap-test.true c.loop-gap.invariant.place c.loop-gap.invariant.stmts
      c.put_gap_if.ensures;
}

pub returns-then-place-len : goal.returns-then-place-len
returns-then-place-len c =
    put_enough c.args.gaps.now c.loop-gap.gap-index c.loop-gap.place c.loop-gap.stmts.items (map stmt_of c.args.stmts.now.items)
    c.loop-gap.invariant.place (search rules) c.loop-gap.invariant.stmts
