use Rattle.c_init.proofs.Common.{stmt_of, make_table}
use Rattle.c_init.proofs.Numberings.{push_at}
use Rattle.c_init.proofs.source.Source.put_tables.Goals as goal

pub loop-table-preserved : goal.loop-table-preserved
loop-table-preserved c =
    push_at c.args.self.now.tree.now.tables c.as_slice-table-items.result.now c.as_slice-table-items.ensures
    c.loop-table.table-index _ c.loop-table-test.true stmt_of (λ t. make_table t.limits) c.loop-table.stmts c.push.new.self _ _
    c.in_ok-push.ensures.ok c.in_ok-made.ensures c.loop-table.invariant
