use Rattle.body_check.proofs.Common.{◌≡◌, ◌++◌, get_or, replicate, refl, ap, ◌∙◌, arith, I32}
use Rattle.wasm_tree.specs.declared.entries.Run.{Run}
use Rattle.body_check.proofs.Gathered.{one_more_gathered, one_more_repeated}
use Rattle.body_check.proofs.context.locals_of.Goals as goal

pub loop-run-preserved : goal.loop-run-preserved
loop-run-preserved c =
    let runs = c.as_slice-run-items.result.now in
    let first : Run = record { count = 0; ty = I32 } in
    let run = get_or runs c.loop-run.run-index first in
    let old = c.loop-run.locals.items in
    let all : c.loop.counter ≡ run.count = omega (arith, c.loop.auto.counter-end, c.loop-test.false) in
    one_more_gathered (λ r. replicate r.count r.ty) runs c.loop-run.run-index run first old c.loop.locals.items _ c.loop-run-test.true refl
    (c.loop.invariant ∙ ap (λ n. old ++ replicate n run.ty) all) c.loop-run.invariant

pub loop-preserved : goal.loop-preserved
loop-preserved c = one_more_repeated _ _ _ _ _ c.loop.invariant c.in_ok-push.ensures.items
