use Rattle.crun_state.proofs.Common.{map, range_with_len, unit_of, hosts_of, naming_of, AreWritten, lines_at_place}
use Rattle.crun_state.proofs.tables.show_elements.Given as goal

abbrev pub invariant-loop-place : goal.invariant-loop-place
invariant-loop-place g l =
    let told = g.O.Sink.told in
    let faults = g.O.Sink.faults in
    AreWritten (lines_at_place (hosts_of g.H.HostModule l.hosts) (naming_of (map unit_of l.units)) l.unit l.name l.elements)
    (told l.fn.out) (told l.out) (faults l.fn.out) (faults l.out) (range_with_len 0 l.place)
