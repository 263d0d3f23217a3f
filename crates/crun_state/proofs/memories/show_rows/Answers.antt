use Rattle.crun_state.proofs.Common.{◌+◌, ◌-◌, ◌/◌, length, sym, subst, arith, range_with_len, row_line, AreWritten, one_more, range_next}
use Rattle.crun_state.proofs.Common.{range_split, stopped_at}
use Rattle.crun_state.proofs.memories.show_rows.Goals as goal

pub returns-in-Err : goal.returns-in-Err
returns-in-Err g c =
    let row = c.loop-row.row in
    let bytes = c.args.memory.now.bytes in
    let lines = row_line c.args.unit c.args.name.now bytes in
    stopped_at lines _ _ _ _ _ _ (range_with_len 0 row) row (range_with_len (row + 1) (length bytes / 16 - (row + 1)))
    (range_with_len 0 (length bytes / 16)) c.in-Err.answer
    (range_split row (length bytes / 16) (omega (arith, c.loop-row-test.true, c.row_count-row-end.ensures.count))) c.loop-row.invariant
    (c.in-Err.ensures (lines row) c.row_line.ensures)

pub loop-row-preserved : goal.loop-row-preserved
loop-row-preserved g c =
    let lines = row_line c.args.unit c.args.name.now c.args.memory.now.bytes in
    subst (AreWritten lines _ _ _ _) (sym (range_next c.loop-row.row))
    (one_more lines c.in-Ok.field-0 _ _ _ _ _ _ (range_with_len 0 c.loop-row.row) c.loop-row.row c.loop-row.invariant
    (c.in-Ok.ensures (lines c.loop-row.row) c.row_line.ensures))
