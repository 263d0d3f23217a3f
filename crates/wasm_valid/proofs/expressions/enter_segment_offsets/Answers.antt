use Rattle.wasm_valid.proofs.Entered.{entered_next}
use Rattle.wasm_valid.proofs.expressions.enter_segment_offsets.Goals as goal

pub loop-segment-preserved : goal.loop-segment-preserved
loop-segment-preserved c =
    entered_next _ _ _ _ _ _ _ _ c.as_slice-segment-items.ensures c.loop-segment-test.true c.segment-item.is
    (rw (c.shape_of-shape.ensures, c.requires.globals) at c.enter_shape.ensures) c.loop-segment.invariant
