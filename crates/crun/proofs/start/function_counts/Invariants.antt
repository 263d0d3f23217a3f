use Rattle.std.proofs.Common.{◌≡◌, length, map, take}
use Rattle.crun.proofs.start.function_counts.Given as goal

abbrev pub invariant-loop-host : goal.invariant-loop-host
invariant-loop-host g l = l.counts.items ≡ map (λ h. length (g.H.HostModule.functions_of h)) (take l.host-index l.hosts)
