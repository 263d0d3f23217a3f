use Rattle.c_check.proofs.Common.{map, take, labels_of, stmt_of, Knows}
use Rattle.c_check.proofs.names.label_names.Given as goal

abbrev pub invariant-loop-stmt : goal.invariant-loop-stmt
invariant-loop-stmt l = Knows l.set (labels_of (take l.stmt-index (map stmt_of l.stmts)))
