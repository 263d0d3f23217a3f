use Rattle.crun_state.proofs.Common.{◌++◌, map, Ok, Err, unit_of, hosts_of, names_in, naming_of, then_writes, cell_lines, held_lines}
use Rattle.crun_state.proofs.Common.{lines_in_order, table_cell_lines}
use Rattle.crun_startup.specs.declared.names.ObjectKind.TheVariants as kind
use Rattle.crun_state.proofs.state.show_items.Goals as goal

pub returns-in-Err-show_tables : goal.returns-in-Err-show_tables
returns-in-Err-show_tables g c =
    let items = unit_of c.args.items.now in
    let vars = lines_in_order (held_lines c.args.unit) (names_in kind.Variable items) c.args.own.now.vars.items in
    let memories = lines_in_order (cell_lines c.args.unit) (names_in kind.Memory items) c.args.own.now.memories.items in
    let tables = lines_in_order
    (table_cell_lines (hosts_of g.H.HostModule c.args.hosts.now) (naming_of (map unit_of c.args.units.now)) c.args.unit)
    (names_in kind.Table items) c.args.own.now.tables.items in
    then_writes c.in-Ok-show_memories.field-0 (Err c.in-Err-show_tables.answer) _ _ _ _ _ _ (vars ++ memories) tables
    (then_writes c.in-Ok.field-0 (Ok c.in-Ok-show_memories.field-0) _ _ _ _ _ _ vars memories c.in-Ok.ensures
    c.in-Ok-show_memories.ensures) c.in-Err-show_tables.ensures
