use Rattle.c_unit.proofs.Common.{◌≡◌, IfOk, option_map, subst, module_of, from_data}
use Rattle.c_unit.proofs.Standing.{stands_at, stands_past, global_pointers_listed}
use Rattle.packed_stmts.specs.PackedItems.{packed_item_of}
use Rattle.c_unit.proofs.unit_items.UnitItems.at_global_pointers.Goals as goal

pub returns-in_ok-global_pointer-in-Some : goal.returns-in_ok-global_pointer-in-Some
returns-in_ok-global_pointer-in-Some c =
    stands_at (global_pointers_listed (module_of c.args.self.now.source) c.args.self.now.listed.pointers.items
    c.args.self.now.pointers_are)
    (from_data (module_of c.args.self.now.source)) c.as_slice-pointers.result.now c.args.n _ _ c.as_slice-pointers.ensures.value
    c.in-Some.ensures.lookup.3.0 c.in-Some.ensures.lookup.1 c.in_ok-global_pointer-in-Some.ensures

pub returns-in-None : goal.returns-in-None
returns-in-None c =
    subst (λ found. IfOk c.at_data.result (λ item. option_map packed_item_of item ≡ found))
    (stands_past (global_pointers_listed (module_of c.args.self.now.source) c.args.self.now.listed.pointers.items
    c.args.self.now.pointers_are)
    (from_data (module_of c.args.self.now.source)) c.as_slice-pointers.result.now c.args.n c.saturating_sub.result
    c.as_slice-pointers.ensures.value c.saturating_sub.ensures c.in-None.ensures.lookup.3)
    c.at_data.ensures
