use Rattle.c_init.proofs.Common.{◌≡◌, ◌++◌, map, drop, stmt_of, make_memory}
use Rattle.c_init.proofs.source.Source.put_memories.Given as goal

abbrev pub invariant-loop-memory : goal.invariant-loop-memory
invariant-loop-memory l = map stmt_of l.stmts ++ map (λ t. make_memory t.limits)
    (drop l.memory-index l.self.tree.now.memories) ≡ map stmt_of l.fn.stmts ++ map (λ t. make_memory t.limits) l.self.tree.now.memories
