use Rattle.c_init.proofs.Common.{◌≡◌, ◌++◌, map, drop, flat_map, stmt_of, write_elements}
use Rattle.c_init.proofs.source.Source.put_elements.Given as goal

abbrev pub invariant-loop-segment : goal.invariant-loop-segment
invariant-loop-segment l = map stmt_of l.stmts ++ flat_map (write_elements l.self.tree.now)
    (drop l.segment-index l.self.tree.now.elements) ≡ map stmt_of l.fn.stmts ++ flat_map (write_elements l.self.tree.now)
    l.self.tree.now.elements
