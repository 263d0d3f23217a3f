use Rattle.crun_state.proofs.Common.{range_with_len, row_line, AreWritten}
use Rattle.crun_state.proofs.memories.show_rows.Given as goal

abbrev pub invariant-loop-row : goal.invariant-loop-row
invariant-loop-row g l =
    let told = g.O.Sink.told in
    let faults = g.O.Sink.faults in
    AreWritten (row_line l.unit l.name l.memory.bytes) (told l.fn.out) (told l.out) (faults l.fn.out) (faults l.out)
    (range_with_len 0 l.row)
