use Rattle.host_replay.proofs.Numbers.{slice_bytes}
use Rattle.host_replay.proofs.module.is_name.Goals as goal

pub returns : goal.returns
returns c = slice_bytes c.args.name.now c.type_inv.name
