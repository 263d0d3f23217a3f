use Rattle.c_unit.proofs.Common.{◌+◌, option_map, sym, refl, ap, ◌∙◌, arith, items, module_of, item_of, Some}
use Rattle.packed_stmts.specs.PackedItems.{packed_item_of}
use Rattle.c_unit.proofs.ItemCounts.{next_number}
use Rattle.c_unit.proofs.Standing.{gives_next}
use Rattle.unit_definition.proofs.Wholes.{gives_none}
use Rattle.c_unit.proofs.unit_items.UnitItems.next.Goals as goal

pub overflow_add-self : goal.overflow_add-self
overflow_add-self c =
    let u = c.args.self.now in
    let number = next_number (module_of u.source) u.number (packed_item_of c.in-Some.packed) u.source.few_entries u.source.few_parts
    (ap (option_map packed_item_of) (sym c.in-Some.is) ∙ c.in_ok-at.ensures) in
    omega (arith, number)

pub returns-in_ok-item-in-Some-clause-given : goal.returns-in_ok-item-in-Some-clause-given
returns-in_ok-item-in-Some-clause-given c =
    let u = c.args.self.now in
    gives_next (items (module_of u.source)) u.number (u.number + 1) (item_of c.in_ok-item-in-Some.item)
    (ap Some c.in_ok-item-in-Some.ensures ∙ ap (option_map packed_item_of) (sym c.in-Some.is) ∙ c.in_ok-at.ensures) refl

pub returns-in-None-clause-given : goal.returns-in-None-clause-given
returns-in-None-clause-given c =
    let u = c.args.self.now in
    let none = gives_none (items (module_of u.source)) u.number (ap (option_map packed_item_of) (sym c.in-None.is) ∙ c.in_ok-at.ensures) in
    (none, none)
