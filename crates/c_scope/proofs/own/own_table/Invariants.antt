use Rattle.c_scope.proofs.Common.{map, drop, variable_pair}
use Rattle.c_scope.proofs.Steps.{Enters}
use Rattle.c_scope.proofs.own.own_table.Given as goal

abbrev pub invariant-loop-variable : goal.invariant-loop-variable
invariant-loop-variable l = Enters l.table (map variable_pair (drop l.variable-index l.variables)) (map variable_pair l.variables)
