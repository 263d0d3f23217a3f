use Rattle.crun_state.proofs.Common.{◌+◌, ◌-◌, map, length, Ok, Err, sym, ap, arith, rules, range_with_len, unit_of, hosts_of, all_written}
use Rattle.crun_state.proofs.Common.{one_more, range_next, range_split, stopped_at, writes_text, lines_of_unit}
use Rattle.crun_state.proofs.Shown.{state_shown}
use Rattle.crun_state.proofs.state.show_state.Goals as goal

pub returns-in-Err : goal.returns-in-Err
returns-in-Err g c =
    let hosts = hosts_of g.H.HostModule c.args.hosts.now in
    let lines = lines_of_unit hosts (map unit_of c.args.units.now) c.args.objects.now in
    let u = c.loop-unit.unit in
    let count = length c.args.units.now in
    writes_text (Err c.in-Err.answer) _ _ _ _ _ _ (sym (state_shown hosts c.args.units.now c.args.objects.now c.requires.stored))
    (stopped_at lines _ _ _ _ _ _ (range_with_len 0 u) u (range_with_len (u + 1) (count - (u + 1))) (range_with_len 0 count)
    c.in-Err.answer (range_split u count (omega (arith, c.loop-unit-test.true))) c.loop-unit.invariant c.in-Err.ensures)

pub loop-unit-preserved : goal.loop-unit-preserved
loop-unit-preserved g c =
    let lines = lines_of_unit (hosts_of g.H.HostModule c.args.hosts.now) (map unit_of c.args.units.now) c.args.objects.now in
    let u = c.loop-unit.unit in
    rw (range_next u) (one_more lines c.in-Ok.field-0 _ _ _ _ _ _ (range_with_len 0 u) u c.loop-unit.invariant c.in-Ok.ensures)

pub returns : goal.returns
returns g c =
    let hosts = hosts_of g.H.HostModule c.args.hosts.now in
    let lines = lines_of_unit hosts (map unit_of c.args.units.now) c.args.objects.now in
    writes_text (Ok tt) _ _ _ _ _ _ (sym (state_shown hosts c.args.units.now c.args.objects.now c.requires.stored))
    (all_written lines _ _ _ _ (range_with_len 0 c.loop-unit.unit) (range_with_len 0 (length c.args.units.now))
    (ap (range_with_len 0) (search rules)) c.loop-unit.invariant)
