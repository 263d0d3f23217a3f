-- What the crate's own proofs cite.
mod Common
mod Collected
mod Checked
mod Externals
mod SymbolsFound
mod Arrays
mod TablesFound
mod TypesFound
mod Apart
mod First
mod UnitsPush
mod InitSymbols
mod InitsFound
mod CalledFound
