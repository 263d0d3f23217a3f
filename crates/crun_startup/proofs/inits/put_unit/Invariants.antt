use Rattle.crun_startup.proofs.Common.{map, filter_map, numbered, item_of, init_entry}
use Rattle.crun_startup.proofs.Collected.{Gathered, filters}
use Rattle.crun_startup.proofs.inits.put_unit.Given as goal

abbrev pub invariant-loop-i : goal.invariant-loop-i
invariant-loop-i l = Gathered (filter_map (init_entry l.unit)) (filters (init_entry l.unit)) (numbered (map item_of l.items))
    l.initial.found.items l.found.items l.i
