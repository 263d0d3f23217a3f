use Rattle.c_unit.proofs.Common.{◌≡◌, ℕ, IfOk, ap, ◌∙◌, subst, if_found, type_in, NamedModule, item_of, body_of, prototype, defined_at}
use Rattle.c_unit.proofs.bodies.prototype.Goals as goal

pub prototype_if-requires : goal.prototype_if-requires
prototype_if-requires c =
    c.defined_type-ty.ensures
    ∙ ap (λ (m : NamedModule). if_found (defined_at m.tree c.own_index-index.result) (λ d. type_in m.tree d.0.type_index)) c.spaces.ensures

pub returns : goal.returns
returns c =
    let source = c.args.source.now in
    subst (λ (index : ℕ). IfOk c.prototype_if.result (λ item. item_of item ≡ prototype (body_of source.tree.now source.name.now index)))
    c.own_index-index.ensures c.prototype_if.ensures
