use Rattle.std.proofs.Common.{ap, List, ℕ, Some}
use Rattle.w2c_io.proofs.mem_sink.MemSinkSink.put.Goals as goal

pub returns-then-call-clause-part : goal.returns-then-call-clause-part
returns-then-call-clause-part c =
    (c.first_half.result.now, c.first_half.ensures.front, ap (λ (b : List ℕ). Some b) c.in_ok-extend_from_slice.ensures.items)
