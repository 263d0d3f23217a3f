use Rattle.wasm_tree.proofs.Common.{◌≡◌, ◌++◌, map, drop, slice_get, flat_map, global_of_import, global_space}
use Rattle.wasm_tree.proofs.tree.Module.global_type.Given as goal

abbrev pub invariant-loop-import : goal.invariant-loop-import
invariant-loop-import l =
    slice_get (flat_map global_of_import (drop l.import-index l.import-items) ++ map (λ g. (g.ty, g.mutable)) l.self.globals) l.left
    ≡ slice_get (global_space l.self) l.index
