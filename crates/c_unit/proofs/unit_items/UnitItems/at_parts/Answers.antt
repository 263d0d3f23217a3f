use Rattle.c_unit.proofs.Common.{◌≡◌, IfOk, option_map, ap, subst, Function, module_of, from_init}
use Rattle.c_unit.proofs.Standing.{stands_at, stands_past, parts_listed}
use Rattle.packed_stmts.specs.PackedItems.{packed_item_of}
use Rattle.c_unit.proofs.unit_items.UnitItems.at_parts.Goals as goal

pub returns-in_ok-part_func-in-Some : goal.returns-in_ok-part_func-in-Some
returns-in_ok-part_func-in-Some c =
    stands_at (parts_listed (module_of c.args.self.now.source) c.args.self.now.listed.parts.items c.args.self.now.parts_are)
    (from_init (module_of c.args.self.now.source)) c.as_slice-parts.result.now c.args.n _ _ c.as_slice-parts.ensures.value
    c.in-Some.ensures.lookup.3.0 c.in-Some.ensures.lookup.1 (ap Function c.in_ok-part_func-in-Some.ensures)

pub returns-in-None : goal.returns-in-None
returns-in-None c =
    subst (λ found. IfOk c.at_init.result (λ item. option_map packed_item_of item ≡ found))
    (stands_past (parts_listed (module_of c.args.self.now.source) c.args.self.now.listed.parts.items c.args.self.now.parts_are)
    (from_init (module_of c.args.self.now.source)) c.as_slice-parts.result.now c.args.n c.saturating_sub.result
    c.as_slice-parts.ensures.value c.saturating_sub.ensures c.in-None.ensures.lookup.3)
    c.at_init.ensures
