use Rattle.std.proofs.Common.{Some, None, sym, ap, ◌∙◌, option_copied}
use Rattle.crun_state.proofs.Named.{host_named}
use Rattle.crun_state.proofs.naming.host_name.Goals as goal

pub returns-in-Some : goal.returns-in-Some
returns-in-Some g c =
    c.name.ensures
    ∙ host_named g.H.HostModule c.args.hosts.now c.args.host (Some c.in-Some.own.now) (sym (ap option_copied c.in-Some.is) ∙ c.at.ensures)

pub returns-in-None : goal.returns-in-None
returns-in-None g c =
    host_named g.H.HostModule c.args.hosts.now c.args.host None (sym (ap option_copied c.in-None.is) ∙ c.at.ensures)
