use Rattle.c_check.proofs.Common.{◌≡◌, map, IfOk, option_map, sym, subst, func_of, item_of, is_function, no_body, first_in_body, broken_at}
use Rattle.c_tree.specs.Tree as tree
use Rattle.c_check.proofs.pass.broken_in_item_body.Goals as goal

pub broken_in_function-requires : goal.broken_in_function-requires
broken_in_function-requires c = c.requires

pub returns-in-Some : goal.returns-in-Some
returns-in-Some c =
    subst (λ (t : tree.Item). IfOk c.broken_in_function.result
    (λ r. option_map broken_at r ≡ first_in_body (map item_of c.args.file.now.items.now) c.args.i t))
    (is_function (item_of c.args.item.now) (func_of c.in-Some.f.now) c.in-Some.ensures) c.broken_in_function.ensures

pub returns-in-None : goal.returns-in-None
returns-in-None c = no_body (map item_of c.args.file.now.items.now) c.args.i (item_of c.args.item.now) (sym c.in-None.ensures)
