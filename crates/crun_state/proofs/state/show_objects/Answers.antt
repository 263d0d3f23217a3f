use Rattle.crun_state.proofs.Common.{map, Some, None, Ok, option_copied, sym, ap, ◌∙◌, unit_of, hosts_of, writes_text, wrote_nothing}
use Rattle.crun_state.proofs.Common.{lines_of_objects}
use Rattle.crun_state.proofs.Shown.{items_found}
use Rattle.crun_state.proofs.state.show_objects.Goals as goal

pub returns-in-Some : goal.returns-in-Some
returns-in-Some g c =
    let hosts = hosts_of g.H.HostModule c.args.hosts.now in
    writes_text c.show_items.result _ _ _ _ _ _
    (ap (λ items. lines_of_objects hosts (map unit_of c.args.units.now) c.args.unit items c.args.own.now)
    (ap unit_of (c.as_slice.ensures ∙ c.unit.ensures.unit)
    ∙ items_found c.args.units.now c.args.unit (Some c.in-Some.named.now) (sym (ap option_copied c.in-Some.is) ∙ c.at.ensures)))
    c.show_items.ensures

pub returns-in-None : goal.returns-in-None
returns-in-None g c =
    let hosts = hosts_of g.H.HostModule c.args.hosts.now in
    writes_text (Ok tt) _ _ _ _ _ _
    (ap (λ items. lines_of_objects hosts (map unit_of c.args.units.now) c.args.unit items c.args.own.now)
    (items_found c.args.units.now c.args.unit None (sym (ap option_copied c.in-None.is) ∙ c.at.ensures)))
    (wrote_nothing tt _ _)
