use Rattle.c_init.proofs.Common.{◌≡◌, ◌++◌, map, drop, filter, is_func_import, func_imports, import_symbol}
use Rattle.c_init.proofs.import_symbols.func_symbols.Given as goal

abbrev pub invariant-loop-place : goal.invariant-loop-place
invariant-loop-place l = l.names.items ++ map import_symbol
    (filter is_func_import (drop l.place l.symbols.indexes.tree.now.imports)) ≡ map import_symbol (func_imports l.symbols.indexes.tree.now)
