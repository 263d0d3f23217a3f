use Rattle.c_trim.proofs.Common.{◌≡◌, map, take, item_of, unit_of, is_reached, kept}
use Rattle.c_trim.proofs.trimming.kept_items.Given as goal

abbrev pub invariant-loop-item : goal.invariant-loop-item
invariant-loop-item l = unit_of l.unit ≡ kept (is_reached l.table l.marks.flags.items) (take l.item-index (map item_of l.items))
