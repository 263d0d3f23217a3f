use Rattle.c_unit.proofs.Common.{◌≡◌, IfOk, slice_get, option_map, ap, ◌∙◌, subst, module_of, from_memories}
use Rattle.c_unit.proofs.Standing.{stands_at, stands_past, tables_listed}
use Rattle.unit_definition.proofs.Wholes.{all_tails}
use Rattle.packed_stmts.specs.PackedItems.{packed_item_of}
use Rattle.c_unit.proofs.unit_items.UnitItems.at.Goals as goal

pub returns-in_ok-table-in-Some : goal.returns-in_ok-table-in-Some
returns-in_ok-table-in-Some c =
    stands_at (tables_listed (module_of c.args.self.now.source))
    (from_memories (module_of c.args.self.now.source)) c.as_slice-tables.result.now c.args.n _ _ c.as_slice-tables.ensures
    c.in-Some.ensures.lookup.3.0 c.in-Some.ensures.lookup.1 c.in_ok-table-in-Some.ensures
    ∙ ap (λ xs. slice_get xs c.args.n) (all_tails (module_of c.args.self.now.source))

pub returns-in-None : goal.returns-in-None
returns-in-None c =
    subst (λ found. IfOk c.at_memories.result (λ item. option_map packed_item_of item ≡ found))
    (stands_past (tables_listed (module_of c.args.self.now.source))
    (from_memories (module_of c.args.self.now.source)) c.as_slice-tables.result.now c.args.n c.saturating_sub.result
    c.as_slice-tables.ensures c.saturating_sub.ensures c.in-None.ensures.lookup.3
    ∙ ap (λ xs. slice_get xs c.args.n) (all_tails (module_of c.args.self.now.source)))
    c.at_memories.ensures
