use Rattle.wasm_tree.proofs.ExactTable.{has_row, row_makes}
use Rattle.wasm_tree.proofs.instruction_table.the_instruction_table_is_exact.Goals as goal

pub returns-clause-each_has_its_row : goal.returns-clause-each_has_its_row
returns-clause-each_has_its_row c = has_row

pub returns-clause-each_row_makes_its_own : goal.returns-clause-each_row_makes_its_own
returns-clause-each_row_makes_its_own c = row_makes
