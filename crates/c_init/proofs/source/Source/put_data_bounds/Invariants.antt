use Rattle.c_init.proofs.Common.{◌≡◌, ◌++◌, map, drop, flat_map, stmt_of, test_data}
use Rattle.c_init.proofs.source.Source.put_data_bounds.Given as goal

abbrev pub invariant-loop-segment : goal.invariant-loop-segment
invariant-loop-segment l = map stmt_of l.stmts ++ flat_map (test_data l.self.tree.now)
    (drop l.segment-index l.segments) ≡ map stmt_of l.fn.stmts ++ flat_map (test_data l.self.tree.now)
    l.segments
