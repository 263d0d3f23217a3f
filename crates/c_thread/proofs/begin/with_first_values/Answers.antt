use Rattle.c_thread.proofs.Common.{Some, sym, ap, ◌∙◌, arith, slice_get-get_or, value_of, grows_all, grows_next, grows_none}
use Rattle.c_thread.proofs.begin.with_first_values.Goals as goal

pub loop-local-preserved : goal.loop-local-preserved
loop-local-preserved c names params e =
    let at = slice_get-get_or c.args.locals.now c.loop-local.local-index c.local-item.result c.loop-local-test.true
    ∙ ap Some (sym c.local-item.is) in
    rw c.in_ok-push-in-Some.ensures.items (grows_next
    (value_of names) params c.args.values.items c.args.locals.now c.loop-local.local-index c.loop-local.values.items
    c.local-item.result c.in-Some.value at
    (c.in-Some.ensures names) (c.loop-local.invariant names params e))

pub returns : goal.returns
returns c names params e =
    grows_all (value_of names) params c.args.values.items c.args.locals.now c.loop-local.local-index c.loop-local.values.items
    (omega (arith, c.loop-local-test.false)) (c.loop-local.invariant names params e)

pub returns-in-None : goal.returns-in-None
returns-in-None c names params e =
    let at = slice_get-get_or c.args.locals.now c.loop-local.local-index c.local-item.result c.loop-local-test.true
    ∙ ap Some (sym c.local-item.is) in
    grows_none (value_of names) params c.args.values.items c.args.locals.now c.loop-local.local-index c.loop-local.values.items
    c.local-item.result at
    (c.in-None.ensures names) (c.loop-local.invariant names params e)
