use Rattle.std.proofs.Common.{arith}
use Rattle.wasm_writing.proofs.BodyLemmas.{all_more, bodies_more, bodies_stopped}
use Rattle.wasm_writing.proofs.bodies.bodies.Goals as goal

pub returns-in-None : goal.returns-in-None
returns-in-None c =
    let l = c.loop-entry in
    bodies_stopped l.all_locals c.args.bodies.now l.entry-index c.entry-item.result _ _ _ c.loop-entry-test.true c.entry-item.is
    l.invariant.sum l.invariant.puts c.body.ensures.puts c.in-None.ensures.none

pub loop-entry-preserved : goal.loop-entry-preserved
loop-entry-preserved c =
    let l = c.loop-entry in
    let bodies = c.args.bodies.now in
    record {
      puts = bodies_more l.all_locals bodies l.entry-index c.entry-item.result _ _ _ c.loop-entry-test.true c.entry-item.is l.invariant.sum
          l.invariant.puts c.body.ensures.puts;
      sum = omega (
        arith,
        all_more bodies l.entry-index c.entry-item.result c.loop-entry-test.true c.entry-item.is,
        l.invariant.sum,
        c.in-Some.ensures.sum,
      );
      most = c.in-Some.ensures.most;
    }
