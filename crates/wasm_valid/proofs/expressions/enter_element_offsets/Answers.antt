use Rattle.wasm_valid.proofs.Entered.{entered_next}
use Rattle.wasm_valid.proofs.expressions.enter_element_offsets.Goals as goal

pub loop-element-preserved : goal.loop-element-preserved
loop-element-preserved c =
    entered_next _ _ _ _ _ _ _ _ c.as_slice-element-items.ensures c.loop-element-test.true c.element-item.is
    (rw (c.shape_of-shape.ensures, c.requires.globals) at c.enter_shape.ensures) c.loop-element.invariant
