use Rattle.crun_cli.proofs.Common.{take, hosts_of, AreWritten, asked_line}
use Rattle.crun_cli.proofs.telling.tell_asks.Given as goal

abbrev pub invariant-loop-ask : goal.invariant-loop-ask
invariant-loop-ask g l =
    let told = g.O.Sink.told in
    let faults = g.O.Sink.faults in
    AreWritten (asked_line (hosts_of g.H.HostModule l.hosts)) (told l.fn.out) (told l.out) (faults l.fn.out) (faults l.out)
    (take l.ask-index l.asks)
