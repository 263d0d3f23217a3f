use Rattle.c_unit.proofs.Common.{◌≡◌, IfOk, option_map, subst, module_of, from_table_pointers}
use Rattle.c_unit.proofs.Standing.{stands_at, stands_past, memory_pointers_listed}
use Rattle.packed_stmts.specs.PackedItems.{packed_item_of}
use Rattle.c_unit.proofs.unit_items.UnitItems.at_pointers.Goals as goal

pub returns-in_ok-pointer-in-Some : goal.returns-in_ok-pointer-in-Some
returns-in_ok-pointer-in-Some c =
    stands_at (memory_pointers_listed (module_of c.args.self.now.source) c.reached-imports.result.now.memories.items
    c.reached-imports.ensures.memories)
    (from_table_pointers (module_of c.args.self.now.source)) c.as_slice-memories.result.now c.args.n _ _ c.as_slice-memories.ensures.value
    c.in-Some.ensures.lookup.3.0 c.in-Some.ensures.lookup.1 c.in_ok-pointer-in-Some.ensures

pub returns-in-None : goal.returns-in-None
returns-in-None c =
    subst (λ found. IfOk c.at_table_pointers.result (λ item. option_map packed_item_of item ≡ found))
    (stands_past (memory_pointers_listed (module_of c.args.self.now.source) c.reached-imports.result.now.memories.items
    c.reached-imports.ensures.memories)
    (from_table_pointers (module_of c.args.self.now.source)) c.as_slice-memories.result.now c.args.n c.saturating_sub.result
    c.as_slice-memories.ensures.value c.saturating_sub.ensures c.in-None.ensures.lookup.3)
    c.at_table_pointers.ensures
