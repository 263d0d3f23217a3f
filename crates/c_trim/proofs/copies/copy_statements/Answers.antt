use Rattle.c_tree.specs.View.{stmt_of}
use Rattle.c_trim.proofs.Steps.{one_copied}
use Rattle.c_trim.proofs.copies.copy_statements.Goals as goal

pub loop-statement-preserved : goal.loop-statement-preserved
loop-statement-preserved c =
    one_copied stmt_of c.args.statements.now c.loop-statement.copies c.push.new.self
    c.loop-statement.statement-index c.statement-item.result c.in_ok-copy_statement.field-0
    c.loop-statement-test.true c.statement-item.is c.in_ok-copy_statement.ensures c.in_ok-push.ensures.ok c.loop-statement.invariant
