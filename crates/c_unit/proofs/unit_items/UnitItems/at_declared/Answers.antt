use Rattle.c_unit.proofs.Common.{◌≡◌, IfOk, option_map, subst, module_of, from_prototypes}
use Rattle.c_unit.proofs.Standing.{stands_at, stands_past, declared_listed}
use Rattle.packed_stmts.specs.PackedItems.{packed_item_of}
use Rattle.c_unit.proofs.unit_items.UnitItems.at_declared.Goals as goal

pub returns-in_ok-declared_item-in-Some : goal.returns-in_ok-declared_item-in-Some
returns-in_ok-declared_item-in-Some c =
    stands_at (declared_listed (module_of c.args.self.now.source) c.args.self.now.listed.declared.items c.args.self.now.declared_are)
    (from_prototypes (module_of c.args.self.now.source)) c.as_slice-declared.result.now c.args.n _ _ c.as_slice-declared.ensures.value
    c.in-Some.ensures.lookup.3.0 c.in-Some.ensures.lookup.1 c.in_ok-declared_item-in-Some.ensures

pub returns-in-None : goal.returns-in-None
returns-in-None c =
    subst (λ found. IfOk c.at_prototypes.result (λ item. option_map packed_item_of item ≡ found))
    (stands_past (declared_listed (module_of c.args.self.now.source) c.args.self.now.listed.declared.items c.args.self.now.declared_are)
    (from_prototypes (module_of c.args.self.now.source)) c.as_slice-declared.result.now c.args.n c.saturating_sub.result
    c.as_slice-declared.ensures.value c.saturating_sub.ensures c.in-None.ensures.lookup.3)
    c.at_prototypes.ensures
