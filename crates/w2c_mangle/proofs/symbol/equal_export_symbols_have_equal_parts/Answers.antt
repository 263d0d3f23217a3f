use Rattle.w2c_mangle.proofs.SymbolNames.{export_symbol_of-injective}
use Rattle.w2c_mangle.proofs.symbol.equal_export_symbols_have_equal_parts.Goals as goal

pub returns : goal.returns
returns c = export_symbol_of-injective
