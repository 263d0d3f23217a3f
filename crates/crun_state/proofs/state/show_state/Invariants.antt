use Rattle.crun_state.proofs.Common.{map, range_with_len, unit_of, hosts_of, AreWritten, lines_of_unit}
use Rattle.crun_state.proofs.state.show_state.Given as goal

abbrev pub invariant-loop-unit : goal.invariant-loop-unit
invariant-loop-unit g l =
    let told = g.O.Sink.told in
    let faults = g.O.Sink.faults in
    AreWritten (lines_of_unit (hosts_of g.H.HostModule l.hosts) (map unit_of l.units) l.objects) (told l.fn.out) (told l.out)
    (faults l.fn.out) (faults l.out) (range_with_len 0 l.unit)
