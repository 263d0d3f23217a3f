use Rattle.c_symbols.proofs.Common.{map, refl, named_of, pair_of, export_symbol, export_type}
use Rattle.w2c_base.proofs.Grown.{map_next}
use Rattle.c_symbols.proofs.ByKind.{nothing_left}
use Rattle.c_symbols.proofs.Made.{one_more}
use Rattle.c_symbols.proofs.symbols.symbols_of_exports.Goals as goal

pub loop-export-preserved : goal.loop-export-preserved
loop-export-preserved c =
    map_next (map pair_of c.loop-export.symbols.items) (map pair_of c.push.new.self.items) _ c.as_slice-export-items.result.now
    c.loop-export.export-index c.export-item.result c.loop-export-test.true c.export-item.is
    (λ e. (export_symbol (named_of c.args.indexes.now) e, export_type c.args.indexes.now.tree.now e))
    (one_more c.loop-export.symbols.items c.push.new.self.items c.in_ok-symbol.symbol _ c.in_ok-push.ensures.items c.in_ok-symbol.ensures)
    c.loop-export.invariant

pub returns : goal.returns
returns c =
    nothing_left (map (λ e. (export_symbol (named_of c.args.indexes.now) e, export_type c.args.indexes.now.tree.now e)))
    (map pair_of c.loop-export.symbols.items) _ c.as_slice-export-items.result.now c.loop-export.export-index refl
    c.loop-export-test.false c.loop-export.invariant
