use Rattle.std.proofs.Common.{refl}
use Rattle.wasm_spelling.proofs.Whole.{one_tree}
use Rattle.wasm_writing.proofs.laws.what_is_written_is_read_again.Goals as goal

pub returns-clause-again : goal.returns-clause-again
returns-clause-again c = λ written file (u, same, s). (u, same, s, λ other o. one_tree file other u o s)

pub returns-clause-formed : goal.returns-clause-formed
returns-clause-formed c = λ tree file are s. (file, are, (tree, refl, s))
