use Rattle.wasm_tree.proofs.Common.{ℕ, ◌<◌, Some, sym, ap, ◌∙◌, subst, arith, rules, code_length, instr_at, instr_tree}
use Rattle.wasm_tree.proofs.Lists.{code_tree-length, code_tree-at}
use Rattle.wasm_tree.proofs.code.Code.at.Goals as goal

pub index-requires : goal.index-requires
index-requires c =
    let less =
    subst (λ (n : ℕ). c.args.i < n) (ap code_length (sym c.self.view_is) ∙ code_tree-length c.self.inside.list.items) c.requires in
    grind (arith, rules, less)

pub returns : goal.returns
returns c =
    let less =
    subst (λ (n : ℕ). c.args.i < n) (ap code_length (sym c.self.view_is) ∙ code_tree-length c.self.inside.list.items) c.requires in
    ap (λ x. Some (instr_tree x)) c.index.ensures ∙ sym (code_tree-at _ c.args.i c.index.result.now less)
    ∙ ap (instr_at c.args.i) c.self.view_is
