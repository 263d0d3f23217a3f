use Rattle.wasm_tree.proofs.Common.{◌≡◌, ◌++◌, map, drop, slice_get, flat_map, func_of_import, func_space}
use Rattle.wasm_tree.proofs.tree.Module.type_index.Given as goal

abbrev pub invariant-loop-import : goal.invariant-loop-import
invariant-loop-import l =
    slice_get (flat_map func_of_import (drop l.import-index l.import-items) ++ map (λ f. f.type_index) l.self.funcs) l.left
    ≡ slice_get (func_space l.self) l.index
