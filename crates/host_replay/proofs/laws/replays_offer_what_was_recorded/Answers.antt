use Rattle.host_replay.proofs.Given.{hosts_same}
use Rattle.host_replay.proofs.laws.replays_offer_what_was_recorded.Goals as goal

pub returns : goal.returns
returns c = hosts_same
