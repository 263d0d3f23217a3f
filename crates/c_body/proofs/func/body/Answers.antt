use Rattle.std.proofs.Common.{◌≡◌}
use Rattle.c_body.proofs.Common.{ℕ, List, IfOk, sym, ap, ◌∙◌, subst, Module, func_seen, body_of, NamedModule}
use Rattle.c_body.proofs.func.body.Goals as goal

abbrev under : List ℕ → Module → NamedModule
under name m = record { name = name; tree = m }

pub function-requires : goal.function-requires
function-requires c = sym c.module-tree.ensures.same ∙ sym (ap (λ (n : NamedModule). n.tree) c.in_ok-spaces.ensures)

pub returns : goal.returns
returns c = subst (λ (n : NamedModule). IfOk c.function.result (λ f. func_seen f ≡ body_of n.tree n.name c.args.index))
    (c.in_ok-spaces.ensures ∙ ap (under c.args.name.now) c.module-tree.ensures.same) c.function.ensures
