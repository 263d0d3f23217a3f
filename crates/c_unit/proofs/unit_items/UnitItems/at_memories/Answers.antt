use Rattle.c_unit.proofs.Common.{◌≡◌, IfOk, option_map, subst, module_of, from_globals}
use Rattle.c_unit.proofs.Standing.{stands_at, stands_past, memories_listed}
use Rattle.packed_stmts.specs.PackedItems.{packed_item_of}
use Rattle.c_unit.proofs.unit_items.UnitItems.at_memories.Goals as goal

pub returns-in_ok-memory-in-Some : goal.returns-in_ok-memory-in-Some
returns-in_ok-memory-in-Some c =
    stands_at (memories_listed (module_of c.args.self.now.source))
    (from_globals (module_of c.args.self.now.source)) c.as_slice-memories.result.now c.args.n _ _ c.as_slice-memories.ensures
    c.in-Some.ensures.lookup.3.0 c.in-Some.ensures.lookup.1 c.in_ok-memory-in-Some.ensures

pub returns-in-None : goal.returns-in-None
returns-in-None c =
    subst (λ found. IfOk c.at_globals.result (λ item. option_map packed_item_of item ≡ found))
    (stands_past (memories_listed (module_of c.args.self.now.source))
    (from_globals (module_of c.args.self.now.source)) c.as_slice-memories.result.now c.args.n c.saturating_sub.result
    c.as_slice-memories.ensures c.saturating_sub.ensures c.in-None.ensures.lookup.3)
    c.at_globals.ensures
