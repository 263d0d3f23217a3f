use Rattle.c_unit.proofs.Common.{◌≡◌, IfOk, slice_get, ap, ◌∙◌, subst, Name, pair_of, accessor_by}
use Rattle.c_tree.specs.Tree as tree
use Rattle.c_tree.specs.View.{func_of}
use Rattle.c_unit.proofs.exports.object_func.Goals as goal

pub returns : goal.returns
returns c =
    let symbol = pair_of c.args.symbol in
    let name = slice_get c.args.names.now.items c.args.index in
    subst (λ (f : tree.Func). IfOk c.accessor.result (λ r. func_of r ≡ f))
    (ap (λ o. accessor_by symbol o c.in_ok-own.own) c.name_at.ensures
    ∙ ap (λ (object : Name). accessor_by symbol name object) c.in_ok-own.ensures) c.accessor.ensures
