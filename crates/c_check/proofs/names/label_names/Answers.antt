use Rattle.c_check.proofs.Common.{label_of, stmt_of}
use Rattle.c_check.proofs.Sets.{knows_put, knows_all}
use Rattle.c_check.proofs.names.label_names.Goals as goal

pub loop-stmt-preserved : goal.loop-stmt-preserved
loop-stmt-preserved c =
    knows_put stmt_of label_of c.args.stmts.now c.loop-stmt.stmt-index c.stmt-item.result c.loop-stmt-test.true c.stmt-item.is
    c.loop-stmt.set c.put.new.set _
    (c.label.ensures) c.in_ok-put.ensures c.loop-stmt.invariant

pub returns : goal.returns
returns c = knows_all stmt_of label_of c.args.stmts.now c.loop-stmt.stmt-index c.loop-stmt.set c.loop-stmt-test.false c.loop-stmt.invariant
