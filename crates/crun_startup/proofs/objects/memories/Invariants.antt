use Rattle.crun_startup.proofs.Common.{[], map, filter_map, item_of, memory_of, memory_value}
use Rattle.crun_startup.proofs.Collected.{Gathered, filters}
use Rattle.crun_startup.proofs.objects.memories.Given as goal

abbrev pub invariant-loop-item : goal.invariant-loop-item
invariant-loop-item l =
    Gathered (filter_map memory_value) (filters memory_value) (map item_of l.items) [] (map memory_of l.memories.items) l.item-index
