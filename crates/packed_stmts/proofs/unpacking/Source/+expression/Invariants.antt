use Rattle.std.proofs.Common.{◌*◌, ◌+◌}
use Rattle.packed_stmts.proofs.unpacking.Source.+expression.Given as goal

abbrev pub decreases-expr_in : goal.decreases-expr_in
decreases-expr_in l = 3 * l.room

abbrev pub decreases-boxed : goal.decreases-boxed
decreases-boxed l = 3 * l.room + 1

abbrev pub decreases-expr_of_parts : goal.decreases-expr_of_parts
decreases-expr_of_parts l = 3 * l.room + 2
