use Rattle.c_merge.proofs.Common.{◌≡◌, map, take, unit_of, joined, new_names}
use Rattle.c_merge.proofs.merging.merged_items.Given as goal

abbrev pub invariant-loop-unit : goal.invariant-loop-unit
invariant-loop-unit l = unit_of l.one ≡ joined new_names 0 (take l.unit (map unit_of l.linked.0))
