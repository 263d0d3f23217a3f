use Rattle.c_helpers.proofs.Common.{◌≡◌, ◌++◌, map, drop, local}
use Rattle.c_helpers.proofs.make.locals_of.Given as goal

-- what is made, and what the variables to come make, is the whole
abbrev pub invariant-loop-variable : goal.invariant-loop-variable
invariant-loop-variable l = l.locals ++ map local (drop l.variable-index l.variables) ≡ map local l.variables
