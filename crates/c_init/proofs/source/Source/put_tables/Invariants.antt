use Rattle.c_init.proofs.Common.{◌≡◌, ◌++◌, map, drop, stmt_of, make_table}
use Rattle.c_init.proofs.source.Source.put_tables.Given as goal

abbrev pub invariant-loop-table : goal.invariant-loop-table
invariant-loop-table l = map stmt_of l.stmts ++ map (λ t. make_table t.limits) (drop l.table-index l.self.tree.now.tables) ≡ map
    stmt_of l.fn.stmts ++ map (λ t. make_table t.limits) l.self.tree.now.tables
