use Rattle.c_unit.proofs.Common.{◌≡◌, IfOk, option_map, ap, subst, Function, module_of, from_parts}
use Rattle.c_unit.proofs.Standing.{stands_at, stands_past, exports_listed}
use Rattle.c_symbols.proofs.Made.{stands_there}
use Rattle.packed_stmts.specs.PackedItems.{packed_item_of}
use Rattle.c_unit.proofs.unit_items.UnitItems.at_exports.Goals as goal

pub export_func-requires : goal.export_func-requires
export_func-requires c =
    stands_there c.args.self.now.source.tree.now.exports c.as_slice-exports.result.now c.args.n _ c.as_slice-exports.ensures
    c.in-Some.ensures.lookup.3.0 c.in-Some.ensures.lookup.1

pub returns-in_ok-export_func-in-Some : goal.returns-in_ok-export_func-in-Some
returns-in_ok-export_func-in-Some c =
    stands_at (exports_listed (module_of c.args.self.now.source))
    (from_parts (module_of c.args.self.now.source)) c.as_slice-exports.result.now c.args.n _ _ c.as_slice-exports.ensures
    c.in-Some.ensures.lookup.3.0 c.in-Some.ensures.lookup.1 (ap Function c.in_ok-export_func-in-Some.ensures)

pub returns-in-None : goal.returns-in-None
returns-in-None c =
    subst (λ found. IfOk c.at_parts.result (λ item. option_map packed_item_of item ≡ found))
    (stands_past (exports_listed (module_of c.args.self.now.source))
    (from_parts (module_of c.args.self.now.source)) c.as_slice-exports.result.now c.args.n c.saturating_sub.result
    c.as_slice-exports.ensures c.saturating_sub.ensures c.in-None.ensures.lookup.3)
    c.at_parts.ensures
