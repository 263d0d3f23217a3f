use Rattle.crun_startup.proofs.Common.{[], map, filter_map, item_of, table_of, Naming, table_value}
use Rattle.crun_startup.proofs.Collected.{Gathered, filters}
use Rattle.crun_startup.proofs.objects.tables.Given as goal

abbrev pub invariant-loop-item : goal.invariant-loop-item
invariant-loop-item l = (names : Naming) → Gathered (filter_map table_value) (filters table_value) (map item_of l.items) []
    (map (table_of names) l.tables.items) l.item-index
