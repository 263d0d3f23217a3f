use Rattle.c_unit.proofs.Common.{◌≡◌, IfOk, option_map, subst, module_of, from_declared}
use Rattle.c_unit.proofs.Standing.{stands_at, stands_past, arrays_listed}
use Rattle.packed_stmts.specs.PackedItems.{packed_item_of}
use Rattle.c_unit.proofs.unit_items.UnitItems.at_data.Goals as goal

pub returns-in_ok-array-in-Some : goal.returns-in_ok-array-in-Some
returns-in_ok-array-in-Some c =
    stands_at (arrays_listed (module_of c.args.self.now.source) c.args.self.now.listed.arrays.items c.args.self.now.arrays_are)
    (from_declared (module_of c.args.self.now.source)) c.as_slice-arrays.result.now c.args.n _ _ c.as_slice-arrays.ensures.value
    c.in-Some.ensures.lookup.3.0 c.in-Some.ensures.lookup.1 c.in_ok-array-in-Some.ensures

pub returns-in-None : goal.returns-in-None
returns-in-None c =
    subst (λ found. IfOk c.at_declared.result (λ item. option_map packed_item_of item ≡ found))
    (stands_past (arrays_listed (module_of c.args.self.now.source) c.args.self.now.listed.arrays.items c.args.self.now.arrays_are)
    (from_declared (module_of c.args.self.now.source)) c.as_slice-arrays.result.now c.args.n c.saturating_sub.result
    c.as_slice-arrays.ensures.value c.saturating_sub.ensures c.in-None.ensures.lookup.3)
    c.at_declared.ensures
