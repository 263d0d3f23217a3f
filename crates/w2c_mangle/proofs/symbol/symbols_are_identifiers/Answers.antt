use Rattle.w2c_mangle.proofs.SymbolNames.{IsSymbol-export_symbol_of, IsSymbol-init_symbol_of}
use Rattle.w2c_mangle.proofs.symbol.symbols_are_identifiers.Goals as goal

pub returns-clause-exports : goal.returns-clause-exports
returns-clause-exports c = IsSymbol-export_symbol_of

pub returns-clause-inits : goal.returns-clause-inits
returns-clause-inits c = IsSymbol-init_symbol_of
