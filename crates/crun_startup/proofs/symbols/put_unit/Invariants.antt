use Rattle.crun_startup.proofs.Common.{map, filter_map, numbered, item_of, entry_of, item_entry}
use Rattle.crun_startup.proofs.Collected.{Gathered, filters}
use Rattle.crun_startup.proofs.symbols.put_unit.Given as goal

abbrev pub invariant-loop-i : goal.invariant-loop-i
invariant-loop-i l = Gathered (filter_map (item_entry l.unit)) (filters (item_entry l.unit)) (numbered (map item_of l.items))
    (map entry_of l.initial.seen.items) (map entry_of l.seen.items) l.i
