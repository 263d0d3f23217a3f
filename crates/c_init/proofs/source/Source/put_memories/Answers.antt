use Rattle.c_init.proofs.Common.{stmt_of, make_memory}
use Rattle.c_init.proofs.Numberings.{push_at}
use Rattle.c_init.proofs.source.Source.put_memories.Goals as goal

pub loop-memory-preserved : goal.loop-memory-preserved
loop-memory-preserved c =
    push_at c.args.self.now.tree.now.memories c.as_slice-memory-items.result.now c.as_slice-memory-items.ensures
    c.loop-memory.memory-index _ c.loop-memory-test.true stmt_of (λ t. make_memory t.limits) c.loop-memory.stmts c.push.new.self _ _
    c.in_ok-push.ensures.ok c.in_ok-made.ensures c.loop-memory.invariant
