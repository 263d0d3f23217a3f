use Rattle.c_trim.proofs.Common.{◌≡◌, map, take, stmt_of}
use Rattle.c_trim.proofs.copies.copy_statements.Given as goal

abbrev pub invariant-loop-statement : goal.invariant-loop-statement
invariant-loop-statement l = map stmt_of l.copies ≡ take l.statement-index (map stmt_of l.statements)
