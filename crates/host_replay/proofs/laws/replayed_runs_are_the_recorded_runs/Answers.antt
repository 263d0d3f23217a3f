use Rattle.host_replay.proofs.Again.{asks_again, run_again}
use Rattle.host_replay.proofs.laws.replayed_runs_are_the_recorded_runs.Goals as goal

pub returns-clause-asks : goal.returns-clause-asks
returns-clause-asks g c = asks_again g.H.HostModule

pub returns-clause-run : goal.returns-clause-run
returns-clause-run g c = run_again g.H.HostModule
