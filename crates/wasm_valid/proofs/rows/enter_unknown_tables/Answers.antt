use Rattle.wasm_valid.proofs.Entered.{entered_next}
use Rattle.wasm_valid.proofs.rows.enter_unknown_tables.Goals as goal

pub loop-element-preserved : goal.loop-element-preserved
loop-element-preserved c =
    entered_next _ _ _ _ _ _ _ _ c.as_slice-element-items.ensures c.loop-element-test.true c.element-item.is
    (rw (c.is_no_first-unknown.ensures, c.as_slice-tables.ensures.value, c.requires.tables) at c.enter_if.ensures) c.loop-element.invariant
