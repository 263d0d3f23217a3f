use Rattle.wasm_tree.proofs.Common.{Bool, length, Some, None, refl, slice_get_past, slice_get_read, global_of_import}
use Rattle.w2c_base.specs.declared.value.ValType.{ValType}
use Rattle.wasm_tree.proofs.Imports.{behind_imports}
use Rattle.wasm_tree.specs.declared.entries.GlobalEntry.{GlobalEntry}
use Rattle.wasm_tree.proofs.tree.Module.global_type.Goals as goal

abbrev type_of : GlobalEntry → ValType × Bool
type_of g = (g.ty, g.mutable)

pub returns-in-Some : goal.returns-in-Some
returns-in-Some c =
    let items = c.as_slice.result.now in
    let found = c.in-Some.ensures.lookup in
    behind_imports global_of_import type_of c.as_slice-import-items.result.now items c.args.self.now.globals c.loop-import.import-index
    c.loop-import.left (Some c.in-Some.global.now) _
    c.as_slice.ensures (slice_get_read items (length items) c.loop-import.left _ refl found.3.0 found.1)
    c.loop-import-test.false c.loop-import.invariant

pub returns-in-None : goal.returns-in-None
returns-in-None c =
    let items = c.as_slice.result.now in
    behind_imports global_of_import type_of c.as_slice-import-items.result.now items c.args.self.now.globals c.loop-import.import-index
    c.loop-import.left None _
    c.as_slice.ensures (slice_get_past items c.loop-import.left c.in-None.ensures.lookup.3)
    c.loop-import-test.false c.loop-import.invariant
