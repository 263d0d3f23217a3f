use Rattle.c_objects.proofs.Common.{refl, ap, ◌∙◌, slice_get_read, machine_of, address_of, effect_of}
use Rattle.c_objects.proofs.Kept.{keeps_on}
use Rattle.c_objects.proofs.Machines.{no_memory_slot, past_end, memory_found, memory_written, memory_back, memory_stored, memory_missing}
use Rattle.c_objects.proofs.store.Store.on_memory.Goals as goal

pub returns-in_default : goal.returns-in_default
returns-in_default c = record {
  effect = λ names depth trail are.
      memory_missing names depth trail c.args.self.now.units.items c.args.at c.args.call are
      (no_memory_slot c.args.self.now.units.items c.args.at.unit c.args.at.object c.in_default.not-Memory);
  stored = λ names are. are;
  kept = λ names depth trail are. refl;
}

pub returns-in_default-get_mut-clause-effect : goal.returns-in_default-get_mut-clause-effect
returns-in_default-get_mut-clause-effect c names depth trail are =
    let units = c.args.self.now.units in
    memory_missing names depth trail units.items c.args.at c.args.call are
    (rw (past_end units.items units.len c.args.at.unit units.ok.0 c.in_default-get_mut.ensures.variant.1) refl)

pub returns-in_default-get_mut-2-clause-effect : goal.returns-in_default-get_mut-2-clause-effect
returns-in_default-get_mut-2-clause-effect c names depth trail are =
    let units = c.args.self.now.units in
    let cells = c.in-Some.unit.now.memories in
    memory_missing names depth trail units.items c.args.at c.args.call are
    (rw (
      slice_get_read units.items units.len c.args.at.unit c.in-Some.unit.now units.ok.0
          (c.in-Some.ensures.variant.0 refl) c.in-Some.ensures.value,
      c.in-Memory.is,
      past_end cells.items cells.len c.in-Memory.number cells.ok.0 c.in_default-get_mut-2.ensures.variant.1,
    ) refl)

pub returns-clause-effect : goal.returns-clause-effect
returns-clause-effect c names depth trail are =
    let units = c.args.self.now.units in
    let cells = c.in-Some.unit.now.memories in
    let unit_here = slice_get_read units.items units.len c.args.at.unit c.in-Some.unit.now units.ok.0
    (c.in-Some.ensures.variant.0 refl) c.in-Some.ensures.value in
    let cell_here = slice_get_read cells.items cells.len c.in-Memory.number c.in-Some-get_mut.cell.now cells.ok.0
    (c.in-Some-get_mut.ensures.variant.0 refl) c.in-Some-get_mut.ensures.value in
    c.in_ok-apply.ensures.effect names (machine_of names depth trail units.items) (address_of names c.args.at)
    (memory_found names depth trail units.items c.args.at.unit c.args.at.object are ∙ rw (unit_here, c.in-Memory.is, cell_here) refl)
    ∙ ap (λ m. effect_of names m c.in_ok-apply.field-0)
    (rw c.in-Memory.is (memory_written names depth trail units.items c.args.at.unit c.in-Memory.number c.in-Some.unit.now
    c.apply.new.self are unit_here))

pub returns-clause-stored : goal.returns-clause-stored
returns-clause-stored c names are =
    let units = c.args.self.now.units in
    let unit_here = slice_get_read units.items units.len c.args.at.unit c.in-Some.unit.now units.ok.0
    (c.in-Some.ensures.variant.0 refl) c.in-Some.ensures.value in
    memory_stored names units.items c.args.at.unit c.in-Memory.number c.in-Some.unit.now c.apply.new.self are unit_here

pub returns-clause-kept : goal.returns-clause-kept
returns-clause-kept c names depth trail are =
    let units = c.args.self.now.units in
    let cells = c.in-Some.unit.now.memories in
    let unit_here = slice_get_read units.items units.len c.args.at.unit c.in-Some.unit.now units.ok.0
    (c.in-Some.ensures.variant.0 refl) c.in-Some.ensures.value in
    let cell_here = slice_get_read cells.items cells.len c.in-Memory.number c.in-Some-get_mut.cell.now cells.ok.0
    (c.in-Some-get_mut.ensures.variant.0 refl) c.in-Some-get_mut.ensures.value in
    keeps_on c.in_ok-apply.field-0 c.in-Some-get_mut.cell.now c.apply.new.self _ _ c.in_ok-apply.ensures.kept
    (memory_back names depth trail units.items c.args.at.unit c.in-Memory.number c.in-Some.unit.now c.in-Some-get_mut.cell.now
    c.apply.new.self are unit_here cell_here)
