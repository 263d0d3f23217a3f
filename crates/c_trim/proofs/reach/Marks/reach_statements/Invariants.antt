use Rattle.c_trim.proofs.Common.{◌≡◌, map, drop, flat_map, stmt_of, reached_by, with_names, stmt_functions}
use Rattle.c_trim.proofs.reach.Marks.reach_statements.Given as goal

abbrev pub invariant-loop-statement : goal.invariant-loop-statement
invariant-loop-statement l = with_names l.table (flat_map stmt_functions (map stmt_of (drop l.statement-index l.statements)))
    (reached_by l.self)
    ≡ with_names l.table (flat_map stmt_functions (map stmt_of l.statements)) (reached_by l.fn.self)
