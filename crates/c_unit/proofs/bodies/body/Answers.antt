use Rattle.c_unit.proofs.Common.{◌≡◌, ℕ, IfOk, sym, ap, ◌∙◌, subst, NamedModule, body_of}
use Rattle.c_tree.specs.Tree as tree
use Rattle.packed_stmts.specs.PackedItems.{packed_func_of}
use Rattle.c_unit.proofs.bodies.body.Goals as goal

pub packed_function-requires : goal.packed_function-requires
packed_function-requires c =
    let source = c.args.source.now in
    source.checked_is ∙ sym (ap (λ (m : NamedModule). m.tree) c.spaces.ensures)

pub returns : goal.returns
returns c =
    let source = c.args.source.now in
    subst (λ (f : tree.Func). IfOk c.packed_function.result (λ r. packed_func_of r ≡ f))
    (ap (λ (m : NamedModule). body_of m.tree m.name c.own_index-index.result) c.spaces.ensures
    ∙ ap (λ (index : ℕ). body_of source.tree.now source.name.now index) c.own_index-index.ensures) c.packed_function.ensures
