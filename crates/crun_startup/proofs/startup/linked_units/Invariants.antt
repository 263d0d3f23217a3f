use Rattle.crun_startup.proofs.Common.{◌≡◌, map, length, take, unit_of, AreUnits}
use Rattle.crun_startup.proofs.startup.linked_units.Given as goal

abbrev pub invariant-loop-k : goal.invariant-loop-k
invariant-loop-k l = (length l.units.items ≡ l.k) × AreUnits l.symbols.value (take l.k (map unit_of l.linked.0)) l.units.items
