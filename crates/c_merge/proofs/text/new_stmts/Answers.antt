use Rattle.c_merge.proofs.Common.{[], stmt_of, new_names}
use Rattle.c_renaming.specs.Renamed as renamed
use Rattle.c_merge.proofs.Joined.{pushed}
use Rattle.c_merge.proofs.text.new_stmts.Goals as goal

pub loop-stmt-preserved : goal.loop-stmt-preserved
loop-stmt-preserved c =
    pushed stmt_of stmt_of (renamed.stmt new_names c.args.unit) c.args.stmts.now c.loop-stmt.stmt-index c.stmt-item.result
    c.in_ok-new_stmt.field-0 _ _ []
    c.loop-stmt-test.true c.stmt-item.is c.in_ok-push.ensures.ok c.in_ok-new_stmt.ensures c.loop-stmt.invariant
