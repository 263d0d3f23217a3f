use Rattle.c_init.proofs.Common.{◌++◌, false, map, ap, ◌∙◌, range_with_len, stmt_of, ending, making, module_of}
use Rattle.c_init.specs.Init.{call_part}
use Rattle.c_init.proofs.InitParts.{calling}
use Rattle.c_init.proofs.source.Source.calling_stmts.Goals as goal

pub returns : goal.returns
returns c =
    let m = module_of c.args.self.now in
    let calls = map call_part (range_with_len 0 c.args.parts) in
    c.in_ok-put_ending.ensures
    ∙ ap (ending m false) (c.in_ok-put_calls.ensures ∙ ap (λ stmts. stmts ++ calls) c.in_ok-put_making.ensures)
    ∙ ap (λ stmts. ending m false (making m (map stmt_of stmts) ++ calls)) c.new-stmts.ensures ∙ calling m c.args.parts
