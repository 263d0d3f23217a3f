use Rattle.c_read.proofs.Common.{◌≤◌, length, begins_type, declaration, declarations}
use Rattle.c_read.proofs.Loops.{Left}
use Rattle.c_read.proofs.function.declarations.Given as goal

abbrev pub invariant-more : goal.invariant-more
invariant-more l = (length l.cursor ≤ length l.fn.cursor) × Left begins_type declaration l.locals l.cursor (declarations l.fn.cursor)

abbrev pub decreases-more : goal.decreases-more
decreases-more l = length l.cursor
