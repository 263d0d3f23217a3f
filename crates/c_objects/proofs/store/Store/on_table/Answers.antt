use Rattle.c_objects.proofs.Common.{refl, ap, ◌∙◌, slice_get_read, machine_of, address_of, effect_of}
use Rattle.c_objects.proofs.Kept.{keeps_on}
use Rattle.c_objects.proofs.Machines.{no_table_slot, past_end, table_found, table_written, table_back, table_stored, table_missing}
use Rattle.c_objects.proofs.store.Store.on_table.Goals as goal

pub returns-in_default : goal.returns-in_default
returns-in_default c = record {
  effect = λ names depth trail are.
      table_missing names depth trail c.args.self.now.units.items c.args.at c.args.call are
      (no_table_slot names c.args.self.now.units.items c.args.at.unit c.args.at.object c.in_default.not-Table);
  stored = λ names are. are;
  kept = λ names depth trail are. refl;
}

pub returns-in_default-get_mut-clause-effect : goal.returns-in_default-get_mut-clause-effect
returns-in_default-get_mut-clause-effect c names depth trail are =
    let units = c.args.self.now.units in
    table_missing names depth trail units.items c.args.at c.args.call are
    (rw (past_end units.items units.len c.args.at.unit units.ok.0 c.in_default-get_mut.ensures.variant.1) refl)

pub returns-in_default-get_mut-2-clause-effect : goal.returns-in_default-get_mut-2-clause-effect
returns-in_default-get_mut-2-clause-effect c names depth trail are =
    let units = c.args.self.now.units in
    let cells = c.in-Some.unit.now.tables in
    table_missing names depth trail units.items c.args.at c.args.call are
    (rw (
      slice_get_read units.items units.len c.args.at.unit c.in-Some.unit.now units.ok.0
          (c.in-Some.ensures.variant.0 refl) c.in-Some.ensures.value,
      c.in-Table.is,
      past_end cells.items cells.len c.in-Table.number cells.ok.0 c.in_default-get_mut-2.ensures.variant.1,
    ) refl)

pub returns-clause-effect : goal.returns-clause-effect
returns-clause-effect c names depth trail are =
    let units = c.args.self.now.units in
    let cells = c.in-Some.unit.now.tables in
    let unit_here = slice_get_read units.items units.len c.args.at.unit c.in-Some.unit.now units.ok.0
    (c.in-Some.ensures.variant.0 refl) c.in-Some.ensures.value in
    let cell_here = slice_get_read cells.items cells.len c.in-Table.number c.in-Some-get_mut.cell.now cells.ok.0
    (c.in-Some-get_mut.ensures.variant.0 refl) c.in-Some-get_mut.ensures.value in
    c.in_ok-apply.ensures.effect names (machine_of names depth trail units.items) (address_of names c.args.at)
    (table_found names depth trail units.items c.args.at.unit c.args.at.object are ∙ rw (unit_here, c.in-Table.is, cell_here) refl)
    ∙ ap (λ m. effect_of names m c.in_ok-apply.field-0)
    (rw c.in-Table.is (table_written names depth trail units.items c.args.at.unit c.in-Table.number c.in-Some.unit.now
    c.apply.new.self are unit_here))

pub returns-clause-stored : goal.returns-clause-stored
returns-clause-stored c names are =
    let units = c.args.self.now.units in
    let unit_here = slice_get_read units.items units.len c.args.at.unit c.in-Some.unit.now units.ok.0
    (c.in-Some.ensures.variant.0 refl) c.in-Some.ensures.value in
    table_stored names units.items c.args.at.unit c.in-Table.number c.in-Some.unit.now c.apply.new.self are unit_here

pub returns-clause-kept : goal.returns-clause-kept
returns-clause-kept c names depth trail are =
    let units = c.args.self.now.units in
    let cells = c.in-Some.unit.now.tables in
    let unit_here = slice_get_read units.items units.len c.args.at.unit c.in-Some.unit.now units.ok.0
    (c.in-Some.ensures.variant.0 refl) c.in-Some.ensures.value in
    let cell_here = slice_get_read cells.items cells.len c.in-Table.number c.in-Some-get_mut.cell.now cells.ok.0
    (c.in-Some-get_mut.ensures.variant.0 refl) c.in-Some-get_mut.ensures.value in
    keeps_on c.in_ok-apply.field-0 c.in-Some-get_mut.cell.now c.apply.new.self _ _ c.in_ok-apply.ensures.kept
    (table_back names depth trail units.items c.args.at.unit c.in-Table.number c.in-Some.unit.now c.in-Some-get_mut.cell.now
    c.apply.new.self are unit_here cell_here)
