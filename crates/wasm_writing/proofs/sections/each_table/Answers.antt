use Rattle.wasm_writing.proofs.Common.{get_or, None, read_again, LimitsEntry, table_entry, table_type}
use Rattle.wasm_writing.proofs.Codes.{puts_here}
use Rattle.wasm_writing.proofs.Lists.{each_more}
use Rattle.wasm_writing.proofs.sections.each_table.Goals as goal

none : LimitsEntry
none = record { limits = record { min = 0; max = None; place = 0 }; place = 0 }

pub loop-table-preserved : goal.loop-table-preserved
unfolding none
loop-table-preserved c =
    let l = c.loop-table in
    let entries = c.args.tables.now in
    let entry = get_or entries l.table-index none in
    each_more table_entry entries l.table-index
    entry _ _ _ c.loop-table-test.true (read_again entries l.table-index none c.loop-table-test.true) l.invariant
    (puts_here entry.place (table_type entry.limits) _ _ c.table_type.ensures)
