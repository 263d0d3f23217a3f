use Rattle.c_unit.proofs.Common.{◌≡◌, ◌++◌, map, drop, filter, is_global_import, global_imports, pointed}
use Rattle.c_unit.proofs.global_pointers.global_pointers.Given as goal

abbrev pub invariant-loop-import : goal.invariant-loop-import
invariant-loop-import l = l.types.items ++ map (pointed l.m) (filter is_global_import (drop l.import-index l.m.imports)) ≡ map
    (pointed l.m) (global_imports l.m)
