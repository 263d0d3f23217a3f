use Rattle.c_read.proofs.Common.{◌≤◌, map, length, stmt_of, not_brace, statement, statements}
use Rattle.c_read.proofs.Loops.{Left}
use Rattle.c_read.proofs.statement.statements.Given as goal

abbrev pub invariant-more : goal.invariant-more
invariant-more l = (length l.cursor ≤ length l.fn.cursor) × Left not_brace statement (map stmt_of l.stmts) l.cursor (statements l.fn.cursor)

abbrev pub decreases-more : goal.decreases-more
decreases-more l = length l.cursor
