use Rattle.c_read.proofs.Common.{◌≤◌, length, cases, is_case, one_case}
use Rattle.c_read.proofs.Loops.{Left}
use Rattle.c_read.proofs.statement.cases.Given as goal

abbrev pub invariant-more : goal.invariant-more
invariant-more l = (length l.cursor ≤ length l.fn.cursor) × Left is_case one_case l.cases l.cursor (cases l.fn.cursor)

abbrev pub decreases-more : goal.decreases-more
decreases-more l = length l.cursor
