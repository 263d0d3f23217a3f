use Rattle.std.proofs.Common.{take}
use Rattle.wast_run.specs.Ran.{symbols_in, IsBehind, RunsTheSame}
use Rattle.wast_run.proofs.session_runs.run_kept.Given as goal

-- so many calls ended
abbrev pub invariant-loop-call : goal.invariant-loop-call
invariant-loop-call g l = record {
  behind : IsBehind g.H.HostModule l.session (symbols_in (take l.call-index l.kept));
  same : RunsTheSame g.H.HostModule l.fn.session l.session;
}
