use Rattle.crun_startup.proofs.Common.{[], map, option_map, func_type_of, item_of, item_type}
use Rattle.crun_startup.proofs.Collected.{Gathered, maps}
use Rattle.crun_startup.proofs.types.of_unit.Given as goal

abbrev pub invariant-loop-item : goal.invariant-loop-item
invariant-loop-item l =
    Gathered (map item_type) (maps item_type) (map item_of l.items) [] (map (option_map func_type_of) l.types.items) l.item-index
