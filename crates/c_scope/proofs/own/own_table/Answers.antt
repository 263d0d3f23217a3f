use Rattle.c_scope.specs.Own.{variable_pair}
use Rattle.c_scope.proofs.Steps.{enters_at}
use Rattle.c_scope.proofs.own.own_table.Goals as goal

pub loop-variable-preserved : goal.loop-variable-preserved
loop-variable-preserved c =
    enters_at variable_pair c.loop-variable.table c.enter_variable.new.table c.args.variables.now
    c.loop-variable.variable-index _ c.loop-variable-test.true c.in_ok-enter_variable.ensures c.loop-variable.invariant
