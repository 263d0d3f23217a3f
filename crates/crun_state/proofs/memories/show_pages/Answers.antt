use Rattle.crun_state.proofs.Common.{Ok, Err, pages_line, row_lines, stops_writing, then_writes}
use Rattle.crun_state.proofs.memories.show_pages.Goals as goal

pub returns-in-Ok-show_rows : goal.returns-in-Ok-show_rows
returns-in-Ok-show_rows g c =
    then_writes c.in-Ok.field-0 (Ok c.in-Ok-show_rows.field-0) _ _ _ _ _ _ (pages_line c.args.unit c.args.name.now c.args.memory.now.bytes)
    (row_lines c.args.unit c.args.name.now c.args.memory.now.bytes)
    (c.in-Ok.ensures (pages_line c.args.unit c.args.name.now c.args.memory.now.bytes) c.pages_line.ensures) c.in-Ok-show_rows.ensures

pub returns-in-Err-show_rows : goal.returns-in-Err-show_rows
returns-in-Err-show_rows g c =
    then_writes c.in-Ok.field-0 (Err c.in-Err-show_rows.answer) _ _ _ _ _ _ (pages_line c.args.unit c.args.name.now c.args.memory.now.bytes)
    (row_lines c.args.unit c.args.name.now c.args.memory.now.bytes)
    (c.in-Ok.ensures (pages_line c.args.unit c.args.name.now c.args.memory.now.bytes) c.pages_line.ensures) c.in-Err-show_rows.ensures

pub returns-in-Err : goal.returns-in-Err
returns-in-Err g c =
    stops_writing c.in-Err.answer _ _ _ _ (pages_line c.args.unit c.args.name.now c.args.memory.now.bytes)
    (row_lines c.args.unit c.args.name.now c.args.memory.now.bytes)
    (c.in-Err.ensures (pages_line c.args.unit c.args.name.now c.args.memory.now.bytes) c.pages_line.ensures)
