use Rattle.std.proofs.Common.{length, map, ap, ◌∙◌, take_all}
use Rattle.crun.proofs.Beginnings.{counts_are}
use Rattle.crun.proofs.start.function_counts.Goals as goal

pub returns : goal.returns
returns g c = counts_are g.H.HostModule c.args.hosts.now c.loop-host.counts.items
    (c.loop-host.invariant
    ∙ ap (map (λ h. length (g.H.HostModule.functions_of h))) (take_all c.loop-host.host-index c.args.hosts.now c.loop-host-test.false))
