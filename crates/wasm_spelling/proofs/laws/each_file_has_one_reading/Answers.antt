use Rattle.wasm_spelling.proofs.Whole.{some_reading, one_tree, one_first, not_both}
use Rattle.wasm_spelling.proofs.laws.each_file_has_one_reading.Goals as goal

pub returns-clause-some : goal.returns-clause-some
returns-clause-some c = some_reading

pub returns-clause-one_tree : goal.returns-clause-one_tree
returns-clause-one_tree c = one_tree

pub returns-clause-one_fault : goal.returns-clause-one_fault
returns-clause-one_fault c = one_first

pub returns-clause-not_both : goal.returns-clause-not_both
returns-clause-not_both c = not_both
