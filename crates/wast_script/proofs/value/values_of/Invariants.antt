use Rattle.wast_script.proofs.Common.{◌≡◌, map, drop, view, all_given, value_of}
use Rattle.wast_script.proofs.Gathered.{gathered}
use Rattle.wast_script.proofs.value.values_of.Given as goal

abbrev pub invariant-loop-item : goal.invariant-loop-item
invariant-loop-item l = gathered value_of l.values (drop l.item-index (map view l.items)) ≡ all_given value_of (map view l.items)
