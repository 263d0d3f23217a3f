use Rattle.std.proofs.Common.{◌*◌, ◌+◌}
use Rattle.c_read.proofs.expression.+expression.Given as goal

abbrev pub decreases-expr : goal.decreases-expr
decreases-expr l = 4 * l.room

abbrev pub decreases-expr_of_parts : goal.decreases-expr_of_parts
decreases-expr_of_parts l = 4 * l.room + 3

abbrev pub decreases-operation : goal.decreases-operation
decreases-operation l = 4 * l.room + 1

abbrev pub decreases-group : goal.decreases-group
decreases-group l = 4 * l.room + 2

abbrev pub decreases-index : goal.decreases-index
decreases-index l = 4 * l.room + 1
