use Rattle.host_replay.proofs.Fits.{answered_fit}
use Rattle.host_replay.proofs.laws.runs_are_recorded.Goals as goal

pub returns : goal.returns
returns g c = answered_fit g.H.HostModule
