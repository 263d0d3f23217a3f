use Rattle.c_body.proofs.Common.{replicate, flat_map_next, read_again}
use Rattle.c_body.proofs.func.declared_types.Goals as goal

pub loop-run-preserved : goal.loop-run-preserved
loop-run-preserved c =
    flat_map_next c.loop-run.types.items c.put_run.new.types.items _ c.as_slice-run-items.result.now c.loop-run.run-index _
    c.loop-run-test.true (read_again c.as_slice-run-items.result.now c.loop-run.run-index _) (λ r. replicate r.count r.ty)
    c.in_ok-put_run.ensures c.loop-run.invariant
