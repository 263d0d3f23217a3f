use Rattle.c_unit.proofs.Common.{ap, ◌∙◌, arith, imported_funcs, NamedModule}
use Rattle.c_init.proofs.Countable.{few_funcs}
use Rattle.c_unit.proofs.bodies.own_index.Goals as goal

pub overflow_cast-result : goal.overflow_cast-result
overflow_cast-result c =
    let source = c.args.source.now in
    let few = few_funcs source.tree.now c.args.number source.few_entries c.requires in
    let imported = c.imported_funcs.ensures ∙ ap (λ (m : NamedModule). imported_funcs m.tree) c.spaces.ensures in
    omega (arith, few, imported)
