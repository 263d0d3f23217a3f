use Rattle.wasm_tree.proofs.Common.{length, Some, None, refl, slice_get_past, slice_get_read, func_of_import}
use Rattle.wasm_tree.proofs.Imports.{behind_imports}
use Rattle.wasm_tree.specs.declared.entries.FuncEntry.{FuncEntry}
use Rattle.wasm_tree.proofs.tree.Module.type_index.Goals as goal

pub returns-in-Some : goal.returns-in-Some
returns-in-Some c =
    let items = c.as_slice.result.now in
    let found = c.in-Some.ensures.lookup in
    behind_imports func_of_import (λ (f : FuncEntry). f.type_index) c.as_slice-import-items.result.now items c.args.self.now.funcs
    c.loop-import.import-index c.loop-import.left (Some c.in-Some.func.now) _
    c.as_slice.ensures (slice_get_read items (length items) c.loop-import.left _ refl found.3.0 found.1)
    c.loop-import-test.false c.loop-import.invariant

pub returns-in-None : goal.returns-in-None
returns-in-None c =
    let items = c.as_slice.result.now in
    behind_imports func_of_import (λ (f : FuncEntry). f.type_index) c.as_slice-import-items.result.now items c.args.self.now.funcs
    c.loop-import.import-index c.loop-import.left None _
    c.as_slice.ensures (slice_get_past items c.loop-import.left c.in-None.ensures.lookup.3)
    c.loop-import-test.false c.loop-import.invariant
