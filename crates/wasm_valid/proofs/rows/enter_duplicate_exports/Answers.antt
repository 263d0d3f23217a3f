use Rattle.wasm_valid.proofs.Names.{one_more_name, known_name, next_export}
use Rattle.wasm_valid.proofs.rows.enter_duplicate_exports.Goals as goal

pub loop-export-preserved : goal.loop-export-preserved
loop-export-preserved c =
    let e = c.export-item.result in
    let i = c.loop-export.export-index in
    let so_far = c.loop-export.invariant in
    let keys = c.loop-export.names.keys in
    record {
      names = λ name. one_more_name name keys c.insert.new.self.keys c.as_slice.result c.args.exports.now i e
          c.loop-export-test.true c.export-item.is c.as_slice.ensures c.in_ok-is_new.ensures.keys (so_far.names name);
      found = next_export c.loop-export.first.found c.enter_if.new.self.found _ c.args.exports.now i e c.in_ok-is_new.is_new
          c.loop-export-test.true c.export-item.is
          (known_name c.in_ok-is_new.is_new keys c.as_slice.result e.name _ c.in_ok-is_new.ensures.added c.as_slice.ensures
          (so_far.names e.name))
          c.enter_if.ensures so_far.found;
    }
