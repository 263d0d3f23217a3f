use Rattle.w2c_mangle.proofs.SymbolNames.{init_symbol_of-injective}
use Rattle.w2c_mangle.proofs.symbol.equal_init_symbols_have_equal_modules.Goals as goal

pub returns : goal.returns
returns c = init_symbol_of-injective
