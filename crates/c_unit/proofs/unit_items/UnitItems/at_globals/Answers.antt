use Rattle.c_unit.proofs.Common.{◌≡◌, IfOk, option_map, subst, module_of, from_pointers}
use Rattle.c_unit.proofs.Standing.{stands_at, stands_past, globals_listed}
use Rattle.packed_stmts.specs.PackedItems.{packed_item_of}
use Rattle.c_unit.proofs.unit_items.UnitItems.at_globals.Goals as goal

pub returns-in_ok-global_item-in-Some : goal.returns-in_ok-global_item-in-Some
returns-in_ok-global_item-in-Some c =
    stands_at (globals_listed (module_of c.args.self.now.source))
    (from_pointers (module_of c.args.self.now.source)) c.as_slice-globals.result.now c.args.n _ _ c.as_slice-globals.ensures
    c.in-Some.ensures.lookup.3.0 c.in-Some.ensures.lookup.1 c.in_ok-global_item-in-Some.ensures

pub returns-in-None : goal.returns-in-None
returns-in-None c =
    subst (λ found. IfOk c.at_pointers.result (λ item. option_map packed_item_of item ≡ found))
    (stands_past (globals_listed (module_of c.args.self.now.source))
    (from_pointers (module_of c.args.self.now.source)) c.as_slice-globals.result.now c.args.n c.saturating_sub.result
    c.as_slice-globals.ensures c.saturating_sub.ensures c.in-None.ensures.lookup.3)
    c.at_pointers.ensures
