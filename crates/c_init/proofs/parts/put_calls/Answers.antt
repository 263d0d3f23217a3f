use Rattle.c_init.proofs.Common.{◌+◌, ◌∷◌, ◌++◌, List, map, sym, ap, ◌∙◌, append-nil, append_assoc, map_push, range_with_len, stmt_of}
use Rattle.std.proofs.Common.{◌-◌}
use Rattle.c_tree.specs.declared.tree.Stmt.{Stmt}
use Rattle.c_init.specs.Init.{call_part}
use Rattle.c_init.proofs.Calls.{next_calls, no_calls}
use Rattle.c_init.proofs.parts.put_calls.Goals as goal

pub loop-number-preserved : goal.loop-number-preserved
loop-number-preserved c =
    let k = c.loop-number.number in
    let rest = map call_part (range_with_len (k + 1) (c.args.parts - (k + 1))) in
    ap (λ (made : List Stmt). map stmt_of made ++ rest) c.in_ok-push.ensures.ok
    ∙ ap (λ made. made ++ rest) (map_push stmt_of c.loop-number.stmts _)
    ∙ append_assoc (map stmt_of c.loop-number.stmts) _ rest
    ∙ ap (λ s. map stmt_of c.loop-number.stmts ++ s ∷ rest) c.in_ok-call_part.ensures
    ∙ ap (λ calls. map stmt_of c.loop-number.stmts ++ calls) (sym (next_calls k c.args.parts c.loop-number-test.true))
    ∙ c.loop-number.invariant

pub returns : goal.returns
returns c =
    sym (append-nil (map stmt_of c.loop-number.stmts))
    ∙ ap (λ calls. map stmt_of c.loop-number.stmts ++ calls) (sym (no_calls c.loop-number.number c.args.parts c.loop-number-test.false))
    ∙ c.loop-number.invariant
