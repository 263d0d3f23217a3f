use Rattle.crun_state.proofs.Common.{map, length, Ok, Err, flat_map, range_with_len, unit_of, length_line, hosts_of, naming_of}
use Rattle.crun_state.proofs.Common.{stops_writing, then_writes, lines_at_place}
use Rattle.crun_state.proofs.tables.show_length.Goals as goal

pub returns-in-Ok-show_elements : goal.returns-in-Ok-show_elements
returns-in-Ok-show_elements g c =
    let first = length_line c.args.unit c.args.name.now (length c.args.elements.now) in
    let lines = lines_at_place (hosts_of g.H.HostModule c.args.hosts.now) (naming_of (map unit_of c.args.units.now)) c.args.unit
    c.args.name.now c.args.elements.now in
    then_writes c.in-Ok.field-0 (Ok c.in-Ok-show_elements.field-0) _ _ _ _ _ _ first
    (flat_map lines (range_with_len 0 (length c.args.elements.now)))
    (c.in-Ok.ensures first c.length_line.ensures) c.in-Ok-show_elements.ensures

pub returns-in-Err-show_elements : goal.returns-in-Err-show_elements
returns-in-Err-show_elements g c =
    let first = length_line c.args.unit c.args.name.now (length c.args.elements.now) in
    let lines = lines_at_place (hosts_of g.H.HostModule c.args.hosts.now) (naming_of (map unit_of c.args.units.now)) c.args.unit
    c.args.name.now c.args.elements.now in
    then_writes c.in-Ok.field-0 (Err c.in-Err-show_elements.answer) _ _ _ _ _ _ first
    (flat_map lines (range_with_len 0 (length c.args.elements.now)))
    (c.in-Ok.ensures first c.length_line.ensures) c.in-Err-show_elements.ensures

pub returns-in-Err : goal.returns-in-Err
returns-in-Err g c =
    let first = length_line c.args.unit c.args.name.now (length c.args.elements.now) in
    let lines = lines_at_place (hosts_of g.H.HostModule c.args.hosts.now) (naming_of (map unit_of c.args.units.now)) c.args.unit
    c.args.name.now c.args.elements.now in
    stops_writing c.in-Err.answer _ _ _ _ first (flat_map lines (range_with_len 0 (length c.args.elements.now)))
    (c.in-Err.ensures first c.length_line.ensures)
