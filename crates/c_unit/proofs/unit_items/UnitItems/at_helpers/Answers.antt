use Rattle.c_unit.proofs.Common.{◌≡◌, IfOk, option_map, ap, subst, Function, module_of, from_bodies}
use Rattle.c_unit.proofs.Standing.{stands_at, stands_past, helpers_listed}
use Rattle.packed_stmts.specs.PackedItems.{packed_item_of}
use Rattle.c_unit.proofs.unit_items.UnitItems.at_helpers.Goals as goal

pub returns-in_ok-helper-in-Some : goal.returns-in_ok-helper-in-Some
returns-in_ok-helper-in-Some c =
    stands_at (helpers_listed (module_of c.args.self.now.source) c.args.self.now.listed.helpers.items c.args.self.now.helpers_are)
    (from_bodies (module_of c.args.self.now.source)) c.as_slice-helpers.result.now c.args.n _ _ c.as_slice-helpers.ensures.value
    c.in-Some.ensures.lookup.3.0 c.in-Some.ensures.lookup.1 (ap Function c.in_ok-helper-in-Some.ensures)

pub returns-in-None : goal.returns-in-None
returns-in-None c =
    subst (λ found. IfOk c.at_bodies.result (λ item. option_map packed_item_of item ≡ found))
    (stands_past (helpers_listed (module_of c.args.self.now.source) c.args.self.now.listed.helpers.items c.args.self.now.helpers_are)
    (from_bodies (module_of c.args.self.now.source)) c.as_slice-helpers.result.now c.args.n c.saturating_sub.result
    c.as_slice-helpers.ensures.value c.saturating_sub.ensures c.in-None.ensures.lookup.3)
    c.at_bodies.ensures
