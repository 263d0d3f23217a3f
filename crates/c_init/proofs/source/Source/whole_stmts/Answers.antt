use Rattle.c_init.proofs.Common.{map, ap, ◌∙◌, stmt_of, ending, making, writing, module_of}
use Rattle.c_init.specs.Init.{tests_bounds}
use Rattle.c_init.proofs.InitParts.{in_parts}
use Rattle.c_init.proofs.source.Source.whole_stmts.Goals as goal

pub returns : goal.returns
returns c =
    let m = module_of c.args.self.now in
    c.in_ok-put_ending.ensures
    ∙ ap (λ bounds. ending m bounds (map stmt_of c.put_writing.new.stmts)) c.tests_bounds.ensures
    ∙ ap (ending m (tests_bounds m.tree)) (c.in_ok-put_writing.ensures ∙ ap (writing m) c.in_ok-put_making.ensures)
    ∙ ap (λ stmts. ending m (tests_bounds m.tree) (writing m (making m (map stmt_of stmts)))) c.new-stmts.ensures ∙ in_parts m
