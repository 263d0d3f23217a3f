use Rattle.c_merge.proofs.Common.{◌≡◌, ◌++◌, map, take, item_of, unit_of, new_names}
use Rattle.c_renaming.specs.Renamed as renamed
use Rattle.c_merge.proofs.items.put_items.Given as goal

abbrev pub invariant-loop-item : goal.invariant-loop-item
invariant-loop-item l = unit_of l.one ≡ unit_of l.fn.one ++ map (renamed.item new_names l.unit) (map item_of (take l.item-index l.items))
