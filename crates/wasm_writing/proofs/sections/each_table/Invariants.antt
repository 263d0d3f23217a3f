use Rattle.wasm_writing.proofs.Common.{take, each, table_entry, Puts}
use Rattle.wasm_writing.proofs.sections.each_table.Given as goal

abbrev pub invariant-loop-table : goal.invariant-loop-table
invariant-loop-table l = Puts (each table_entry (take l.table-index l.tables)) l.initial.draft l.draft
