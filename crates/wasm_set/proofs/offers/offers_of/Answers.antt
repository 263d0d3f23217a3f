use Rattle.wasm_set.proofs.Entering.{entered, all_entered}
use Rattle.wasm_set.proofs.offers.offers_of.Goals as goal

pub loop-export-preserved : goal.loop-export-preserved
loop-export-preserved c = record {
  spaces = c.loop-export.invariant.spaces;
  entered = entered c.args.m.now c.loop-export.table c.enter.new.self c.as_slice-export-items.result.now c.loop-export.export-index
      c.export-item.result c.as_slice.result.now c.offer.result c.as_slice-export-items.ensures c.loop-export-test.true c.export-item.is
      c.as_slice.ensures
      (c.offer.ensures c.args.m.now c.loop-export.invariant.spaces) c.in_ok-enter.ensures c.loop-export.invariant.entered;
}

pub returns : goal.returns
returns c = all_entered c.args.m.now c.loop-export.table c.as_slice-export-items.result.now c.loop-export.export-index
    c.as_slice-export-items.ensures c.loop-export-test.false c.loop-export.invariant.entered
