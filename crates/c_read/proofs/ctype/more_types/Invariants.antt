use Rattle.c_read.proofs.Common.{◌≤◌, length, is_comma}
use Rattle.c_read.specs.Types.{next_type, more_types}
use Rattle.c_read.proofs.Loops.{Left}
use Rattle.c_read.proofs.ctype.more_types.Given as goal

abbrev pub invariant-more : goal.invariant-more
invariant-more l = (length l.cursor ≤ length l.fn.cursor) × Left is_comma next_type l.types l.cursor (more_types l.fn.first l.fn.cursor)

abbrev pub decreases-more : goal.decreases-more
decreases-more l = length l.cursor
