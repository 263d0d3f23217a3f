use Rattle.wasm_writing.proofs.Common.{get_or, arith, read_again, Run}
use Rattle.w2c_base.specs.declared.value.ValType.TheVariants.{I32}
use Rattle.wasm_writing.proofs.BodyLemmas.{locals_more, runs_more, runs_refused}
use Rattle.wasm_writing.proofs.bodies.locals.Goals as goal
use Rattle.wasm_writing.proofs.bodies.locals.Goals.{then-run-locals-via-then-run-locals}
use Rattle.wasm_writing.proofs.bodies.locals.Goals.{then-run-locals-via-else-run-locals+then-run-before}

none : Run
none = record { count = 0; ty = I32 }

pub returns-then-run-locals-clause-puts : goal.returns-then-run-locals-clause-puts
unfolding none
returns-then-run-locals-clause-puts c =
    let l = c.loop-run in
    let runs = c.args.runs.now in
    runs_refused c.args.before l.locals runs l.run-index
    (get_or runs l.run-index none) _ _ _ _ c.loop-run-test.true (read_again runs l.run-index none c.loop-run-test.true) l.invariant.sum
    (λ low all. elim c.then-run-locals.branch [
      | then-run-locals-via-then-run-locals w ↦ omega (arith, low, w.if-run-locals.true)
      | then-run-locals-via-else-run-locals+then-run-before w ↦ omega (arith, all, w.if-run-before.true)
    ])
    l.invariant.puts c.number.ensures c.refuse.ensures

pub loop-run-preserved : goal.loop-run-preserved
unfolding none
loop-run-preserved c =
    let l = c.loop-run in
    let runs = c.args.runs.now in
    let run = get_or runs l.run-index none in
    let is = read_again runs l.run-index none c.loop-run-test.true in
    record {
      puts = runs_more c.args.before l.locals runs l.run-index run _ _ _ _ c.loop-run-test.true is l.invariant.sum
          (omega (arith, c.if-run-locals.false, l.invariant.low)) (omega (arith, c.if-run-before.false, l.invariant.all))
          l.invariant.puts c.number.ensures c.put.ensures;
      sum = omega (arith, locals_more runs l.run-index run c.loop-run-test.true is, l.invariant.sum);
      low = omega (arith, c.if-run-locals.false, l.invariant.low);
      all = omega (arith, c.if-run-before.false, l.invariant.all);
    }
