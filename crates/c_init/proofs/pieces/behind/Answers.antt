use Rattle.std.proofs.Common.{◌-◌}
use Rattle.c_init.proofs.Common.{◌+◌, ◌<◌, length, drop, flat_map, sym, ap, ◌∙◌, subst, arith, at_front}
use Rattle.c_init.specs.Init.{elements_in}
use Rattle.c_init.specs.Portions.{elements_behind, Starts}
use Rattle.c_init.proofs.PieceCounts.{drop_twice}
use Rattle.c_init.proofs.PieceLists.{all_passed, passed_next}
use Rattle.c_init.proofs.pieces.behind.Goals as goal

pub loop-segment-preserved : goal.loop-segment-preserved
loop-segment-preserved c =
    let segments = c.args.segments.now in
    let here = c.saturating_sub-there.ensures in
    record {
      at = ap (λ n. n + 1) c.loop-segment.invariant.at;
      so_far =
          ap (λ n. drop (c.loop-segment.left - c.saturating_sub-there.result)
          (elements_behind n (drop (c.loop-segment.segment-index + 1) segments))) c.saturating_sub-number.ensures
          ∙ passed_next segments c.loop-segment.segment-index c.loop-segment.number c.loop-segment.left c.len-many.result
          c.saturating_sub-there.result c.segment-item.result _
          c.loop-segment-test.true c.segment-item.is c.len-many.ensures here c.if-left-there.false c.loop-segment.invariant.so_far;
    }

pub returns-then-left-there-clause-same : goal.returns-then-left-there-clause-same
returns-then-left-there-clause-same c =
    let segments = c.args.segments.now in
    ap (elements_behind (c.loop-segment.number + c.loop-segment.left))
    (c.split_at.ensures.back ∙ ap (λ n. drop n segments) c.loop-segment.invariant.at)
    ∙ sym (drop_twice c.loop-segment.left c.loop-segment.number (flat_map elements_in (drop c.loop-segment.segment-index segments)))
    ∙ c.loop-segment.invariant.so_far

pub returns-then-left-there-clause-starts : goal.returns-then-left-there-clause-starts
returns-then-left-there-clause-starts c =
    let segments = c.args.segments.now in
    let less : c.loop-segment.number + c.loop-segment.left < length c.segment-item.result.funcs =
    omega (arith, c.if-left-there.true, c.saturating_sub-there.ensures, c.len-many.ensures) in
    subst (Starts (c.loop-segment.number + c.loop-segment.left))
    (sym (c.split_at.ensures.back ∙ ap (λ n. drop n segments) c.loop-segment.invariant.at
    ∙ at_front segments c.loop-segment.segment-index c.segment-item.result c.loop-segment-test.true c.segment-item.is)) less

pub returns-clause-same : goal.returns-clause-same
returns-clause-same c =
    ap (elements_behind 0) c.nothing.ensures
    ∙ all_passed c.args.segments.now c.loop-segment.segment-index c.loop-segment.number c.loop-segment.left _ c.loop-segment-test.false
    c.loop-segment.invariant.so_far

pub returns-clause-starts : goal.returns-clause-starts
returns-clause-starts c = subst (Starts 0) (sym c.nothing.ensures) tt
