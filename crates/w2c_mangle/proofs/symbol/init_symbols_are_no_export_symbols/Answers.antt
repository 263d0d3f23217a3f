use Rattle.w2c_mangle.proofs.SymbolNames.{init_symbol_of-not_export}
use Rattle.w2c_mangle.proofs.symbol.init_symbols_are_no_export_symbols.Goals as goal

pub returns : goal.returns
returns c = init_symbol_of-not_export
