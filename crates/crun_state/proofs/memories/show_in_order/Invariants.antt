use Rattle.crun_state.proofs.Common.{map, take, entry_of, AreWritten, cell_lines, lines_at}
use Rattle.crun_state.proofs.memories.show_in_order.Given as goal

abbrev pub invariant-loop-k : goal.invariant-loop-k
invariant-loop-k g l =
    let told = g.O.Sink.told in
    let faults = g.O.Sink.faults in
    AreWritten (lines_at (cell_lines l.unit) l.own.memories.items) (told l.fn.out) (told l.out)
    (faults l.fn.out) (faults l.out) (take l.k (map entry_of l.names))
