use Rattle.c_init.proofs.Common.{◌≡◌, ◌++◌, map, drop, flat_map, stmt_of, test_elements}
use Rattle.c_init.proofs.source.Source.put_element_bounds.Given as goal

abbrev pub invariant-loop-element : goal.invariant-loop-element
invariant-loop-element l = map stmt_of l.stmts ++ flat_map (test_elements l.self.tree.now)
    (drop l.element-index l.elements) ≡ map stmt_of l.fn.stmts ++ flat_map (test_elements l.self.tree.now)
    l.elements
