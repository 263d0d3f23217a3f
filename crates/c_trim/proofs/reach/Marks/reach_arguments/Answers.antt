use Rattle.c_trim.proofs.Common.{arg_of, reached_by, arg_functions}
use Rattle.c_trim.proofs.Marking.{one_reached}
use Rattle.c_trim.proofs.reach.Marks.reach_arguments.Goals as goal

pub loop-argument-preserved : goal.loop-argument-preserved
loop-argument-preserved c =
    one_reached c.args.table.now arg_functions arg_of c.args.arguments.now c.loop-argument.argument-index c.argument-item.result
    (reached_by c.loop-argument.self) (reached_by c.reach_argument.new.self) _
    c.loop-argument-test.true c.argument-item.is c.in_ok-reach_argument.ensures c.loop-argument.invariant
