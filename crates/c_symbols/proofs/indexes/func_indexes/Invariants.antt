use Rattle.c_symbols.proofs.Common.{◌≡◌, ◌++◌, map, drop, flat_map, func_of_import, func_space}
use Rattle.c_symbols.proofs.indexes.func_indexes.Given as goal

abbrev pub invariant-loop-import : goal.invariant-loop-import
invariant-loop-import l = l.space.items ++ flat_map func_of_import (drop l.import-index l.import-items) ≡ flat_map func_of_import
    l.m.imports

abbrev pub invariant-loop-func : goal.invariant-loop-func
invariant-loop-func l = l.space.items ++ map (λ f. f.type_index) (drop l.func-index l.func-items) ≡ func_space l.m
