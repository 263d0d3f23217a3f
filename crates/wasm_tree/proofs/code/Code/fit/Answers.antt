use Rattle.wasm_tree.proofs.Common.{ap, ◌∙◌, code_tree}
use Rattle.wasm_tree.proofs.code.Code.fit.Goals as goal

pub returns : goal.returns
returns c = ap code_tree c.fit_short.ensures ∙ c.self.view_is
