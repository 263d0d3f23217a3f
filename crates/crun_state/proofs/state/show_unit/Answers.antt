use Rattle.crun_state.proofs.Common.{map, Ok, option_copied, sym, ap, ◌∙◌, unit_of, hosts_of, writes_text, wrote_nothing, lines_if_made}
use Rattle.crun_state.proofs.state.show_unit.Goals as goal

pub returns-in-Some : goal.returns-in-Some
returns-in-Some g c =
    writes_text c.show_objects.result _ _ _ _ _ _
    (ap (lines_if_made (hosts_of g.H.HostModule c.args.hosts.now) (map unit_of c.args.units.now) c.args.unit)
    (sym (ap option_copied c.in-Some.is) ∙ c.at.ensures))
    c.show_objects.ensures

pub returns-in-None : goal.returns-in-None
returns-in-None g c =
    writes_text (Ok tt) _ _ _ _ _ _
    (ap (lines_if_made (hosts_of g.H.HostModule c.args.hosts.now) (map unit_of c.args.units.now) c.args.unit)
    (sym (ap option_copied c.in-None.is) ∙ c.at.ensures))
    (wrote_nothing tt _ _)
