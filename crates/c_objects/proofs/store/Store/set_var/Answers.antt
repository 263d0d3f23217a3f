use Rattle.c_objects.proofs.Common.{refl, slice_get_read}
use Rattle.w2c_base.proofs.Places.{set_same}
use Rattle.c_objects.proofs.Machines.{var_written, var_stored}
use Rattle.c_objects.proofs.store.Store.set_var.Goals as goal

pub returns-clause-effect : goal.returns-clause-effect
returns-clause-effect c names depth trail are is =
    let units = c.args.self.now.units in
    let unit_here = slice_get_read units.items units.len c.args.at.unit c.in-Some.unit.now units.ok.0
    (c.in-Some.ensures.variant.0 refl) c.in-Some.ensures.value in
    rw c.in-Variable.is
    (var_written names depth trail units.items c.args.at.unit c.in-Variable.number c.in-Some.unit.now c.args.value are unit_here)

pub returns-clause-stored : goal.returns-clause-stored
returns-clause-stored c names are =
    let units = c.args.self.now.units in
    let unit_here = slice_get_read units.items units.len c.args.at.unit c.in-Some.unit.now units.ok.0
    (c.in-Some.ensures.variant.0 refl) c.in-Some.ensures.value in
    var_stored names units.items c.args.at.unit c.in-Variable.number c.in-Some.unit.now c.args.value are unit_here

pub returns-in_default-get_mut-2-clause-kept : goal.returns-in_default-get_mut-2-clause-kept
returns-in_default-get_mut-2-clause-kept c is =
    let units = c.args.self.now.units in
    set_same units.items c.args.at.unit c.in-Some.unit.now
    (slice_get_read units.items units.len c.args.at.unit c.in-Some.unit.now units.ok.0
    (c.in-Some.ensures.variant.0 refl) c.in-Some.ensures.value)

pub returns-clause-found : goal.returns-clause-found
returns-clause-found c =
    let units = c.args.self.now.units in
    let cells = c.in-Some.unit.now.vars in
    let unit_here = slice_get_read units.items units.len c.args.at.unit c.in-Some.unit.now units.ok.0
    (c.in-Some.ensures.variant.0 refl) c.in-Some.ensures.value in
    let cell_here = slice_get_read cells.items cells.len c.in-Variable.number c.in-Some-get_mut.place.now cells.ok.0
    (c.in-Some-get_mut.ensures.variant.0 refl) c.in-Some-get_mut.ensures.value in
    rw (unit_here, c.in-Variable.is, cell_here) refl
