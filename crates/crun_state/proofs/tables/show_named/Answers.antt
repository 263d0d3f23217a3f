use Rattle.crun_state.proofs.Common.{map, Ok, option_copied, sym, ap, ◌∙◌, unit_of, hosts_of, naming_of, writes_text, wrote_nothing}
use Rattle.crun_state.proofs.Common.{length_and_elements, table_cell_lines}
use Rattle.crun_state.proofs.Numbers.{found_named, table_by_place}
use Rattle.crun_state.proofs.tables.show_named.Goals as goal

pub returns-in-Some : goal.returns-in-Some
returns-in-Some g c =
    let hosts = hosts_of g.H.HostModule c.args.hosts.now in
    let names = naming_of (map unit_of c.args.units.now) in
    writes_text c.show_length.result _ _ _ _ _ _
    (ap (length_and_elements hosts names c.args.unit _) c.as_slice-elements.ensures.value
    ∙ table_by_place hosts names c.args.unit _ c.in-Some.table.now
    ∙ found_named (table_cell_lines hosts names c.args.unit) c.args.own.now.tables.items _ c.args.names.now c.args.k _ _ c.requires.there
    (sym (ap option_copied c.in-Some.is) ∙ c.at.ensures) c.as_slice.ensures.value)
    c.show_length.ensures

pub returns-in-None : goal.returns-in-None
returns-in-None g c =
    let hosts = hosts_of g.H.HostModule c.args.hosts.now in
    let names = naming_of (map unit_of c.args.units.now) in
    writes_text (Ok tt) _ _ _ _ _ _
    (found_named (table_cell_lines hosts names c.args.unit) c.args.own.now.tables.items _ c.args.names.now c.args.k _ _ c.requires.there
    (sym (ap option_copied c.in-None.is) ∙ c.at.ensures) c.as_slice.ensures.value)
    (wrote_nothing tt _ _)
