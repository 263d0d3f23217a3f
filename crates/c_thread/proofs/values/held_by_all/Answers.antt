use Rattle.c_thread.proofs.Common.{map, mapped_at, arg_of, value_of, evaluates_fault, evaluates_next}
use Rattle.c_thread.proofs.values.held_by_all.Goals as goal

pub loop-arg-preserved : goal.loop-arg-preserved
loop-arg-preserved c names p m r sees =
    let at = mapped_at arg_of c.args.args.now c.loop-arg.arg-index c.arg-item.result c.loop-arg-test.true c.arg-item.is in
    rw c.in_ok-push-in-Ok.ensures.items (evaluates_next (value_of names) p m r c.loop-arg.values.items c.loop-arg.arg-index
    (map arg_of c.args.args.now) (arg_of c.arg-item.result) c.in-Ok.value at (c.in-Ok.ensures names p m r sees)
    (c.loop-arg.invariant names p m r sees))

pub returns-in-Err : goal.returns-in-Err
returns-in-Err c names p m r sees =
    let at = mapped_at arg_of c.args.args.now c.loop-arg.arg-index c.arg-item.result c.loop-arg-test.true c.arg-item.is in
    evaluates_fault (value_of names) p m r c.loop-arg.values.items c.loop-arg.arg-index (map arg_of c.args.args.now)
    (arg_of c.arg-item.result) c.in-Err.fault at (c.in-Err.ensures names p m r sees) (c.loop-arg.invariant names p m r sees)
