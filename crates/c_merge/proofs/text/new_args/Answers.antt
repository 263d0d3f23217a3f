use Rattle.c_merge.proofs.Common.{[], arg_of, new_names}
use Rattle.c_renaming.specs.Renamed as renamed
use Rattle.c_merge.proofs.Joined.{pushed}
use Rattle.c_merge.proofs.text.new_args.Goals as goal

pub loop-arg-preserved : goal.loop-arg-preserved
loop-arg-preserved c =
    pushed arg_of arg_of (renamed.arg new_names c.args.unit) c.args.args.now c.loop-arg.arg-index c.arg-item.result
    c.in_ok-new_arg.field-0 _ _ []
    c.loop-arg-test.true c.arg-item.is c.in_ok-push.ensures.ok c.in_ok-new_arg.ensures c.loop-arg.invariant
