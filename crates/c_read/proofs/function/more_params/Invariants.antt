use Rattle.c_read.proofs.Common.{◌≤◌, length, more_params, next_param, is_comma}
use Rattle.c_read.proofs.Loops.{Left}
use Rattle.c_read.proofs.function.more_params.Given as goal

abbrev pub invariant-more : goal.invariant-more
invariant-more l = (length l.cursor ≤ length l.fn.cursor) × Left is_comma next_param l.params l.cursor (more_params l.fn.first l.fn.cursor)

abbrev pub decreases-more : goal.decreases-more
decreases-more l = length l.cursor
