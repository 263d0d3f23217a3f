use Rattle.c_init.proofs.Common.{◌≡◌, IfOk, ap, ◌∙◌, subst, expr_of, constant_by}
use Rattle.c_tree.specs.Tree as tree
use Rattle.c_init.proofs.Constants.{by_single}
use Rattle.c_init.proofs.source.Source.constant.Goals as goal

pub returns : goal.returns
returns c =
    let m = c.args.self.now.tree.now in
    subst (λ (e : tree.Expr). IfOk c.constant_of.result (λ r. expr_of r ≡ e))
    (ap (constant_by m) c.only.ensures ∙ by_single m c.args.code.now) c.constant_of.ensures
