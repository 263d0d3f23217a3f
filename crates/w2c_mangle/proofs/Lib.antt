-- What crates above cite.
pub mod EscapedNames
pub mod SymbolNames
