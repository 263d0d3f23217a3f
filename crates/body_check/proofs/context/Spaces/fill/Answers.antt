use Rattle.body_check.proofs.Common.{◌∙◌, func_of_import, global_of_import, memory_of_import, table_of_import}
use Rattle.body_check.proofs.Gathered.{one_more_gathered}
use Rattle.body_check.proofs.context.Spaces.fill.Goals as goal

pub loop-import-preserved : goal.loop-import-preserved
loop-import-preserved c =
    let so_far = c.loop-import.invariant in
    let more = c.in_ok-enter.ensures in
    let imports = c.as_slice-import-items.result.now in
    let i = c.loop-import.import-index in
    let x = c.import-item.result in
    record {
      types = more.types ∙ so_far.types;
      funcs = one_more_gathered func_of_import imports i x x _ _ _ c.loop-import-test.true c.import-item.is more.funcs so_far.funcs;
      tables = one_more_gathered table_of_import imports i x x _ _ _ c.loop-import-test.true c.import-item.is more.tables so_far.tables;
      memories = one_more_gathered memory_of_import imports i x x _ _ _ c.loop-import-test.true c.import-item.is more.memories
          so_far.memories;
      globals = one_more_gathered global_of_import imports i x x _ _ _ c.loop-import-test.true c.import-item.is more.globals so_far.globals;
    }
