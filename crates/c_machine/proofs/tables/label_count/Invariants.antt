use Rattle.std.proofs.Common.{◌≤◌}
use Rattle.c_machine.proofs.tables.label_count.Given as goal

abbrev pub invariant-loop-stmt : goal.invariant-loop-stmt
invariant-loop-stmt l = l.count ≤ l.stmt-index
