use Rattle.c_print.proofs.Common.{◌≡◌, map, drop, item_of, items_onto}
use Rattle.c_print.proofs.unit.put_items.Given as goal

abbrev pub invariant-loop-item : goal.invariant-loop-item
invariant-loop-item l = items_onto l.page (map item_of (drop l.item-index l.items)) ≡ items_onto l.fn.page (map item_of l.items)
