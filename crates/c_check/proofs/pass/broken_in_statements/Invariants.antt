use Rattle.c_check.proofs.Common.{◌≡◌, map, take, labels_of, stmt_of, first_in_stmts, scope_of, Knows}
use Rattle.c_check.proofs.pass.broken_in_statements.Given as goal

abbrev pub invariant-loop-i : goal.invariant-loop-i
invariant-loop-i l = (first_in_stmts (scope_of l.s) l.item l.i ≡ first_in_stmts (scope_of l.s) l.item 0)
    × Knows l.earlier (labels_of (take l.i (map stmt_of l.stmts))) × (l.stmts ≡ l.s.body.now.stmts)
