use Rattle.c_thread.proofs.Common.{Some, refl, ap, ◌∙◌, arith, slice_get-get_or}
use Rattle.c_thread.proofs.Asks.{counts_all, counts_next, counts_none}
use Rattle.c_thread.proofs.calling.numbers.Goals as goal

pub returns-in-Pointer : goal.returns-in-Pointer
returns-in-Pointer c names =
    let at = slice_get-get_or c.args.values.now c.loop-value.value-index _ c.loop-value-test.true ∙ ap Some c.in-Pointer.is in
    counts_none names c.args.values.now c.loop-value.value-index c.loop-value.args.items _ at (λ rest. refl) (c.loop-value.invariant names)

pub returns-in-FuncPointer : goal.returns-in-FuncPointer
returns-in-FuncPointer c names =
    let at = slice_get-get_or c.args.values.now c.loop-value.value-index _ c.loop-value-test.true ∙ ap Some c.in-FuncPointer.is in
    counts_none names c.args.values.now c.loop-value.value-index c.loop-value.args.items _ at (λ rest. refl) (c.loop-value.invariant names)

pub loop-value-preserved : goal.loop-value-preserved
loop-value-preserved c names =
    let at = slice_get-get_or c.args.values.now c.loop-value.value-index _ c.loop-value-test.true ∙ ap Some c.in-Number.is in
    rw c.in_ok-push-in-Number.ensures.items
    (counts_next names c.args.values.now c.loop-value.value-index c.loop-value.args.items c.in-Number.number at
    (c.loop-value.invariant names))

pub returns : goal.returns
returns c names = counts_all names c.args.values.now c.loop-value.value-index c.loop-value.args.items
    (omega (arith, c.loop-value-test.false)) (c.loop-value.invariant names)
