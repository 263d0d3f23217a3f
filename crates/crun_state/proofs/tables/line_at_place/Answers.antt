use Rattle.crun_state.proofs.Common.{map, sym, ap, ◌∙◌, unit_of, element_line, hosts_of, naming_of, line_as, entry_lines}
use Rattle.crun_state.proofs.tables.line_at_place.Goals as goal

pub returns-in-Some : goal.returns-in-Some
returns-in-Some g c =
    let hosts = hosts_of g.H.HostModule c.args.hosts.now in
    let names = naming_of (map unit_of c.args.units.now) in
    line_as c.element_line.result _ _
    (ap (λ text. element_line c.args.unit c.args.name.now c.args.place text c.in-Some.entry.signature) c.function_in-function.ensures
    ∙ ap (entry_lines hosts names c.args.unit c.args.name.now c.args.place) (sym c.in-Some.is ∙ c.element.ensures))
    c.element_line.ensures

pub returns-in-None : goal.returns-in-None
returns-in-None g c =
    let hosts = hosts_of g.H.HostModule c.args.hosts.now in
    let names = naming_of (map unit_of c.args.units.now) in
    c.new.ensures ∙ ap (entry_lines hosts names c.args.unit c.args.name.now c.args.place) (sym c.in-None.is ∙ c.element.ensures)
