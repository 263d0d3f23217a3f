use Rattle.crun_state.proofs.Common.{◌+◌, ◌-◌, map, length, sym, subst, arith, range_with_len, unit_of, hosts_of, naming_of, AreWritten}
use Rattle.crun_state.proofs.Common.{one_more, range_next, range_split, stopped_at, lines_at_place}
use Rattle.crun_state.proofs.tables.show_elements.Goals as goal

pub returns-in-Err : goal.returns-in-Err
returns-in-Err g c =
    let lines = lines_at_place (hosts_of g.H.HostModule c.args.hosts.now) (naming_of (map unit_of c.args.units.now)) c.args.unit
    c.args.name.now c.args.elements.now in
    let at = c.loop-place.place in
    let count = length c.args.elements.now in
    stopped_at lines _ _ _ _ _ _ (range_with_len 0 at) at (range_with_len (at + 1) (count - (at + 1))) (range_with_len 0 count)
    c.in-Err.answer (range_split at count (omega (arith, c.loop-place-test.true))) c.loop-place.invariant
    (c.in-Err.ensures (lines at) c.line_at_place.ensures)

pub loop-place-preserved : goal.loop-place-preserved
loop-place-preserved g c =
    let lines = lines_at_place (hosts_of g.H.HostModule c.args.hosts.now) (naming_of (map unit_of c.args.units.now)) c.args.unit
    c.args.name.now c.args.elements.now in
    let at = c.loop-place.place in
    subst (AreWritten lines _ _ _ _) (sym (range_next at))
    (one_more lines c.in-Ok.field-0 _ _ _ _ _ _ (range_with_len 0 at) at c.loop-place.invariant
    (c.in-Ok.ensures (lines at) c.line_at_place.ensures))
