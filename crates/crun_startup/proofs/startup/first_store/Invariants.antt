use Rattle.crun_startup.proofs.Common.{map, take, unit_of, AreAllFirst}
use Rattle.crun_startup.proofs.startup.first_store.Given as goal

abbrev pub invariant-loop-k : goal.invariant-loop-k
invariant-loop-k l = AreAllFirst (take l.k (map unit_of l.linked.0)) l.units.items
