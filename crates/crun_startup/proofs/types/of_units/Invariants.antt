use Rattle.crun_startup.proofs.Common.{[], map, unit_of, item_type, types_in}
use Rattle.crun_startup.proofs.Collected.{Gathered, maps}
use Rattle.crun_startup.proofs.types.of_units.Given as goal

abbrev pub invariant-loop-unit : goal.invariant-loop-unit
invariant-loop-unit l =
    Gathered (map (map item_type)) (maps (map item_type)) (map unit_of l.linked.0) [] (map types_in l.lists.items) l.unit
