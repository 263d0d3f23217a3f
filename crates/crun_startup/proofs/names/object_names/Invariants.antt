use Rattle.crun_startup.proofs.Common.{[], map, filter_map, item_of, texts, object_name}
use Rattle.crun_startup.proofs.Collected.{Gathered, filters}
use Rattle.crun_startup.proofs.names.object_names.Given as goal

abbrev pub invariant-loop-item : goal.invariant-loop-item
invariant-loop-item l =
    Gathered (filter_map (object_name l.kind)) (filters (object_name l.kind)) (map item_of l.items) [] (texts l.names.items) l.item-index
