use Rattle.crun_startup.proofs.Common.{map, item_of, Enters, array_name}
use Rattle.crun_startup.proofs.names.array_numbers.Given as goal

abbrev pub invariant-loop-i : goal.invariant-loop-i
invariant-loop-i l = Enters l.table l.i (map array_name (map item_of l.items))
