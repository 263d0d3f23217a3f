use Rattle.c_read.proofs.Common.{◌≤◌, map, length, arg_of, is_comma}
use Rattle.c_read.specs.Arguments.{next_argument, more_arguments}
use Rattle.c_read.proofs.Loops.{Left}
use Rattle.c_read.proofs.argument.more_arguments.Given as goal

abbrev pub invariant-more : goal.invariant-more
invariant-more l =
    (length l.cursor ≤ length l.fn.cursor)
    × Left is_comma (next_argument l.room) (map arg_of l.args) l.cursor (more_arguments l.room (arg_of l.fn.first) l.fn.cursor)

abbrev pub decreases-more : goal.decreases-more
decreases-more l = length l.cursor
