use Rattle.wasm_valid.proofs.Entered.{entered_next}
use Rattle.wasm_valid.proofs.rows.enter_unknown_memories.Goals as goal

pub loop-segment-preserved : goal.loop-segment-preserved
loop-segment-preserved c =
    entered_next _ _ _ _ _ _ _ _ c.as_slice-segment-items.ensures c.loop-segment-test.true c.segment-item.is
    (rw (c.is_no_first-unknown.ensures, c.as_slice-memories.ensures.value, c.requires.memories) at c.enter_if.ensures)
    c.loop-segment.invariant
