use Rattle.wasm_tree.proofs.Common.{◌≡◌, ◌+◌, ◌-◌, ◌^◌, ◌≤◌, min, length, drop, filter, imported_funcs, is_func_import}
use Rattle.wasm_tree.proofs.tree.Module.imported_funcs.Given as goal

abbrev pub invariant-loop-import : goal.invariant-loop-import
invariant-loop-import l = (l.count ≤ 2 ^ 32 - 1)
    × (min (l.count + length (filter is_func_import (drop l.import-index l.import-items))) (2 ^ 32 - 1)
    ≡ min (imported_funcs l.self) (2 ^ 32 - 1))
