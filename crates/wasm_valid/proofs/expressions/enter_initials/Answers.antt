use Rattle.std.proofs.Math.Seq.{take-append_seam}
use Rattle.wasm_valid.proofs.Entered.{entered_next}
use Rattle.wasm_valid.proofs.expressions.enter_initials.Goals as goal

pub loop-global-preserved : goal.loop-global-preserved
loop-global-preserved c =
    entered_next _ _ _ _ _ _ _ _ c.as_slice-global-items.ensures c.loop-global-test.true c.global-item.is
    (rw (c.shape_of-shape.ensures, c.requires.imported, c.requires.globals, take-append_seam) at c.enter_shape.ensures)
    c.loop-global.invariant
