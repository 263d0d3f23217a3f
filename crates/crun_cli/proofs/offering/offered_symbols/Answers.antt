use Rattle.crun_cli.proofs.Common.{Err, ap, hosts_of}
use Rattle.crun_cli.proofs.Offered.{none_twice}
use Rattle.crun_cli.proofs.offering.offered_symbols.Goals as goal

pub unreachable-requires : goal.unreachable-requires
unreachable-requires g c =
    none_twice (hosts_of g.H.HostModule c.args.hosts.now) c.in-Err-Twice.field-0-0 c.requires.offered
    (c.in-Err-Twice.ensures.twice c.in-Err-Twice.field-0-0 (ap Err c.in-Err-Twice.field-0-is))
