use Rattle.c_trim.proofs.Common.{stmt_of, reached_by, stmt_functions}
use Rattle.c_trim.proofs.Marking.{one_reached}
use Rattle.c_trim.proofs.reach.Marks.reach_statements.Goals as goal

pub loop-statement-preserved : goal.loop-statement-preserved
loop-statement-preserved c =
    one_reached c.args.table.now stmt_functions stmt_of c.args.statements.now c.loop-statement.statement-index c.statement-item.result
    (reached_by c.loop-statement.self) (reached_by c.reach_statement.new.self) _
    c.loop-statement-test.true c.statement-item.is c.in_ok-reach_statement.ensures c.loop-statement.invariant
