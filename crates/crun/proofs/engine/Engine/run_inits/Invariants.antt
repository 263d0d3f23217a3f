use Rattle.std.proofs.Common.{◌≡◌}
use Rattle.crun.proofs.InitsBehind.{RanInits}
use Rattle.crun.proofs.engine.Engine.run_inits.Given as goal

abbrev pub invariant-loop-k : goal.invariant-loop-k
invariant-loop-k g l = record { ran : RanInits g.H.HostModule l.initial.self l.self l.k; counted : l.inits_run ≡ l.k }
