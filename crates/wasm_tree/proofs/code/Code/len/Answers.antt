use Rattle.wasm_tree.proofs.Common.{sym, ap, ◌∙◌, code_length}
use Rattle.wasm_tree.proofs.Lists.{code_tree-length}
use Rattle.wasm_tree.proofs.code.Code.len.Goals as goal

pub returns : goal.returns
returns c = sym (code_tree-length c.as_slice.result.now) ∙ ap code_length c.as_slice.ensures
