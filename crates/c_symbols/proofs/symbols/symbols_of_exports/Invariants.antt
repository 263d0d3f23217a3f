use Rattle.c_symbols.proofs.Common.{◌≡◌, ◌++◌, map, drop, named_of, pair_of, export_symbol, export_type, exported_symbols}
use Rattle.c_symbols.proofs.symbols.symbols_of_exports.Given as goal

-- what was made, and what the exports to come make
abbrev pub invariant-loop-export : goal.invariant-loop-export
invariant-loop-export l = map pair_of l.symbols.items ++ map (λ e. (export_symbol (named_of l.indexes) e, export_type l.indexes.tree.now e))
    (drop l.export-index l.export-items) ≡ exported_symbols (named_of l.indexes)
