use Rattle.crun_state.proofs.Common.{◌+◌, ◌<◌, map, length, take, drop, sym, subst, arith, length-map, unit_of, entry_of, hosts_of}
use Rattle.crun_state.proofs.Common.{naming_of, AreWritten, front_next, front_split, one_more, same_at, stopped_at, entry_at, lines_at}
use Rattle.crun_state.proofs.Common.{table_cell_lines}
use Rattle.crun_state.proofs.tables.show_in_order.Goals as goal

pub returns-in-Err : goal.returns-in-Err
returns-in-Err g c =
    let names = naming_of (map unit_of c.args.units.now) in
    let lines = lines_at (table_cell_lines (hosts_of g.H.HostModule c.args.hosts.now) names c.args.unit) c.args.own.now.tables.items in
    let k = c.loop-k.k in
    let entries = map entry_of c.args.names.now in
    let x = entry_at c.args.names.now k in
    let less : k < length entries = omega (arith, c.loop-k-test.true, length-map c.args.names.now entry_of) in
    stopped_at lines _ _ _ _ _ _ (take k entries) x (drop (k + 1) entries) entries c.in-Err.answer
    (front_split entries k x less (same_at entries k _ x less)) c.loop-k.invariant c.in-Err.ensures

pub loop-k-preserved : goal.loop-k-preserved
loop-k-preserved g c =
    let names = naming_of (map unit_of c.args.units.now) in
    let lines = lines_at (table_cell_lines (hosts_of g.H.HostModule c.args.hosts.now) names c.args.unit) c.args.own.now.tables.items in
    let k = c.loop-k.k in
    let entries = map entry_of c.args.names.now in
    let x = entry_at c.args.names.now k in
    let less : k < length entries = omega (arith, c.loop-k-test.true, length-map c.args.names.now entry_of) in
    subst (AreWritten lines _ _ _ _) (sym (front_next entries k x less (same_at entries k _ x less)))
    (one_more lines c.in-Ok.field-0 _ _ _ _ _ _ (take k entries) x c.loop-k.invariant c.in-Ok.ensures)
