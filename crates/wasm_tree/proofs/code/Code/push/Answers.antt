use Rattle.wasm_tree.proofs.Common.{ap, ◌∙◌, ◌+>◌, code_tree, instr_tree}
use Rattle.wasm_tree.proofs.Lists.{code_tree-push}
use Rattle.wasm_tree.proofs.code.Code.push.Goals as goal

pub returns-clause-ok : goal.returns-clause-ok
returns-clause-ok c =
    ap code_tree c.in_ok-put.ensures.ok
    ∙ code_tree-push _ c.args.item ∙ ap (λ code. code +> instr_tree c.args.item) c.self.view_is
