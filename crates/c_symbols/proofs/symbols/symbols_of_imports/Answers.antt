use Rattle.c_symbols.proofs.Common.{map, refl, pair_of, import_symbol, import_type}
use Rattle.w2c_base.proofs.Grown.{map_next}
use Rattle.c_symbols.proofs.ByKind.{nothing_left}
use Rattle.c_symbols.proofs.Made.{one_more}
use Rattle.c_symbols.proofs.symbols.symbols_of_imports.Goals as goal

pub loop-import-preserved : goal.loop-import-preserved
loop-import-preserved c =
    map_next (map pair_of c.loop-import.symbols.items) (map pair_of c.push.new.self.items) _ c.as_slice-import-items.result.now
    c.loop-import.import-index c.import-item.result c.loop-import-test.true c.import-item.is
    (λ e. (import_symbol e, import_type c.args.indexes.now.tree.now e))
    (one_more c.loop-import.symbols.items c.push.new.self.items c.in_ok-symbol.symbol _ c.in_ok-push.ensures.items c.in_ok-symbol.ensures)
    c.loop-import.invariant

pub returns : goal.returns
returns c =
    nothing_left (map (λ e. (import_symbol e, import_type c.args.indexes.now.tree.now e))) (map pair_of c.loop-import.symbols.items) _
    c.as_slice-import-items.result.now c.loop-import.import-index refl c.loop-import-test.false c.loop-import.invariant
