use Rattle.c_check.proofs.Common.{map, take, Option, ap, ◌∙◌, named, body_variables, body_of, func_of, item_of, maybe_body_of, body_some}
use Rattle.c_check.proofs.Common.{first_in_stmts, variable_pair}
use Rattle.c_tree.specs.declared.tree.Body.{Body}
use Rattle.c_check.proofs.pass.broken_in_definition.Goals as goal

pub new-scope-requires : goal.new-scope-requires
new-scope-requires c q =
    let f = func_of c.args.f.now in
    c.in_ok-table.ensures q ∙ ap (named q) (ap (map variable_pair) c.as_slice.ensures.value ∙ c.in_ok-own.ensures)
    ∙ ap (λ (b : Option Body). named q (body_variables (record
    { is_static = f.is_static; result = f.result; name = f.name; params = f.params; body = maybe_body_of b }))) c.requires.body

pub returns : goal.returns
returns c =
    let unit = map item_of c.args.file.now.items.now in
    let f = func_of c.args.f.now in
    let b = body_of c.args.body.now in
    c.in_ok-found.ensures
    ∙ ap (λ s. first_in_stmts s c.args.i 0)
    (c.new-scope.ensures ∙ ap (λ n. record { declared = take n unit; func = f; body = b }) c.requires.count)
    ∙ body_some unit c.args.i f b (ap maybe_body_of c.requires.body)
