use Rattle.crun_startup.proofs.Common.{[], map, filter_map, item_of, Naming, value_of, var_value}
use Rattle.crun_startup.proofs.Collected.{Gathered, filters}
use Rattle.crun_startup.proofs.objects.first_values.Given as goal

abbrev pub invariant-loop-item : goal.invariant-loop-item
invariant-loop-item l = (names : Naming) → Gathered (filter_map var_value) (filters var_value) (map item_of l.items) []
    (map (value_of names) l.values.items) l.item-index
