use Rattle.c_machine.proofs.Common.{map, stmt_of}
use Rattle.c_machine.proofs.Labels.{IsAhead}
use Rattle.c_machine.proofs.ahead.from_end.Given as goal

abbrev pub invariant-loop-i : goal.invariant-loop-i
invariant-loop-i l = IsAhead (map stmt_of l.stmts) l.i l.next l.places.items

abbrev pub decreases-loop-i : goal.decreases-loop-i
decreases-loop-i l = l.i
