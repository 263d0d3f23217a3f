use Rattle.crun_state.proofs.Common.{map, take, unit_of, entry_of, hosts_of, naming_of, AreWritten, lines_at, table_cell_lines}
use Rattle.crun_state.proofs.tables.show_in_order.Given as goal

abbrev pub invariant-loop-k : goal.invariant-loop-k
invariant-loop-k g l =
    let told = g.O.Sink.told in
    let faults = g.O.Sink.faults in
    let hosts = hosts_of g.H.HostModule l.hosts in
    let names = naming_of (map unit_of l.units) in
    AreWritten (lines_at (table_cell_lines hosts names l.unit) l.own.tables.items) (told l.fn.out) (told l.out)
    (faults l.fn.out) (faults l.out) (take l.k (map entry_of l.names))
