use Rattle.wasm_writing.proofs.Lists.{each_more}
use Rattle.wasm_writing.proofs.vectors.each.Goals as goal

pub loop-entry-preserved : goal.loop-entry-preserved
loop-entry-preserved g c =
    each_more g.E.Entry.fields c.args.entries.now c.loop-entry.entry-index c.entry-item.result _ _ _ c.loop-entry-test.true c.entry-item.is
    c.loop-entry.invariant c.put.ensures
