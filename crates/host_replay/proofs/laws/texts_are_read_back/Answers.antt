use Rattle.host_replay.proofs.Spelled.{spelled}
use Rattle.host_replay.proofs.laws.texts_are_read_back.Goals as goal

pub returns : goal.returns
returns c = spelled
