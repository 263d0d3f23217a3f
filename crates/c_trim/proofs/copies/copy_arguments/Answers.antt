use Rattle.c_tree.specs.View.{arg_of}
use Rattle.c_trim.proofs.Steps.{one_copied}
use Rattle.c_trim.proofs.copies.copy_arguments.Goals as goal

pub loop-argument-preserved : goal.loop-argument-preserved
loop-argument-preserved c =
    one_copied arg_of c.args.arguments.now c.loop-argument.copies c.push.new.self
    c.loop-argument.argument-index c.argument-item.result c.in_ok-copy_argument.field-0
    c.loop-argument-test.true c.argument-item.is c.in_ok-copy_argument.ensures c.in_ok-push.ensures.ok c.loop-argument.invariant
