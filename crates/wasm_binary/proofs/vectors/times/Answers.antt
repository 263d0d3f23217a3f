use Rattle.wasm_binary.proofs.Common.{◌+◌, sym, refl, subst, err_from_is_err_and, times_at, at}
use Rattle.wasm_binary.proofs.Loop.{Ahead, goes_on, stops, is_done}
use Rattle.wasm_binary.proofs.vectors.times.Goals as goal

pub returns-in_err-entry : goal.returns-in_err-entry
returns-in_err-entry g c =
    let p = err_from_is_err_and c.from_residual.result c.from_residual.ensures.1 in
    rw (p.1, p.2) (stops g.E.Entry.reading c.args.count c.loop.counter c.loop.entries (at c.loop.ahead) c.in_err-entry.field-0.0
    (times_at g.E.Entry.reading c.args.count (at c.args.rest)) c.loop-test.true c.in_err-entry.ensures c.loop.invariant)

pub loop-preserved : goal.loop-preserved
loop-preserved g c =
    subst (λ entries. Ahead g.E.Entry.reading c.args.count (c.loop.counter + 1) entries (at c.in_ok-entry.after)
    (times_at g.E.Entry.reading c.args.count (at c.args.rest))) (sym c.in_ok-push.ensures.ok)
    (goes_on g.E.Entry.reading c.args.count c.loop.counter (c.loop.counter + 1) c.loop.entries (at c.loop.ahead) c.in_ok-entry.entry
    (at c.in_ok-entry.after) (times_at g.E.Entry.reading c.args.count (at c.args.rest)) c.loop-test.true refl c.in_ok-entry.ensures
    c.loop.invariant)

pub returns : goal.returns
returns g c =
    is_done g.E.Entry.reading c.args.count c.loop.counter c.loop.entries (at c.loop.ahead)
    (times_at g.E.Entry.reading c.args.count (at c.args.rest)) c.loop-test.false c.loop.invariant
