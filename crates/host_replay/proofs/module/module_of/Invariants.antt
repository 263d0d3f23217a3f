use Rattle.std.proofs.Common.{◌≡◌, take}
use Rattle.host_replay.proofs.module.module_of.Given as goal

-- so many functions of the host
abbrev pub invariant-loop-i : goal.invariant-loop-i
invariant-loop-i g l = l.functions.items ≡ take l.i (g.H.HostModule.functions_of l.host)
