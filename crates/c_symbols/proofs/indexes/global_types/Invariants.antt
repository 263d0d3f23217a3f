use Rattle.c_symbols.proofs.Common.{◌≡◌, ◌++◌, map, drop, flat_map, global_of_import, global_space}
use Rattle.c_symbols.proofs.indexes.global_types.Given as goal

abbrev pub invariant-loop-import : goal.invariant-loop-import
invariant-loop-import l = l.space.items ++ flat_map global_of_import (drop l.import-index l.import-items) ≡ flat_map
    global_of_import l.m.imports

abbrev pub invariant-loop-global : goal.invariant-loop-global
invariant-loop-global l = l.space.items ++ map (λ g. (g.ty, g.mutable)) (drop l.global-index l.global-items) ≡ global_space l.m
