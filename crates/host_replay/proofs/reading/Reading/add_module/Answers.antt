use Rattle.host_replay.proofs.Common.{ap, Recorded}
use Rattle.host_replay.proofs.Known.{module_known}
use Rattle.host_replay.proofs.reading.Reading.add_module.Goals as goal

pub returns-clause-known : goal.returns-clause-known
returns-clause-known c = λ _.
    module_known _ _ _ c.args.name c.requires (ap (λ (j : Recorded). j.hosts) c.in_ok-push_module.ensures)
