use Rattle.c_helpers.proofs.Common.{◌≡◌, ◌++◌, map, drop, param}
use Rattle.c_helpers.proofs.make.params_of.Given as goal

-- what is made, and what the variables to come make, is the whole
abbrev pub invariant-loop-variable : goal.invariant-loop-variable
invariant-loop-variable l = l.params ++ map param (drop l.variable-index l.variables) ≡ map param l.variables
