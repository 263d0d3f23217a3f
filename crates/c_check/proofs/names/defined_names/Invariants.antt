use Rattle.c_check.proofs.Common.{map, take, item_of, defined_of, Knows}
use Rattle.c_check.proofs.names.defined_names.Given as goal

abbrev pub invariant-loop-item : goal.invariant-loop-item
invariant-loop-item l = Knows l.set (defined_of (take l.item-index (map item_of l.items)))
