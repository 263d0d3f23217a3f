use Rattle.wasm_tree.proofs.Common.{length, filter, refl, is_global_import}
use Rattle.wasm_tree.proofs.Imports.{all_counted}
use Rattle.wasm_tree.proofs.tree.Module.imported_globals.Goals as goal

pub returns : goal.returns
returns c =
    all_counted (λ imports. length (filter is_global_import imports)) refl c.as_slice-import-items.result.now
    c.loop-import.import-index c.loop-import.count 4294967295 _ c.loop-import-test.false c.loop-import.invariant.0 c.loop-import.invariant.1
