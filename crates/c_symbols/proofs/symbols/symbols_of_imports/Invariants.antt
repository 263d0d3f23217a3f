use Rattle.c_symbols.proofs.Common.{◌≡◌, ◌++◌, map, drop, named_of, pair_of, import_symbol, import_type, imported_symbols}
use Rattle.c_symbols.proofs.symbols.symbols_of_imports.Given as goal

-- what was made, and what the imports to come make
abbrev pub invariant-loop-import : goal.invariant-loop-import
invariant-loop-import l = map pair_of l.symbols.items ++ map (λ e. (import_symbol e, import_type l.indexes.tree.now e))
    (drop l.import-index l.import-items) ≡ imported_symbols (named_of l.indexes)
