use Rattle.wasm_tree.proofs.Common.{◌≡◌, ◌+◌, ◌-◌, ◌^◌, ◌≤◌, min, length, drop, filter, imported_globals, is_global_import}
use Rattle.wasm_tree.proofs.tree.Module.imported_globals.Given as goal

abbrev pub invariant-loop-import : goal.invariant-loop-import
invariant-loop-import l = (l.count ≤ 2 ^ 32 - 1)
    × (min (l.count + length (filter is_global_import (drop l.import-index l.import-items))) (2 ^ 32 - 1)
    ≡ min (imported_globals l.self) (2 ^ 32 - 1))
