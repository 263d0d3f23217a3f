pub mod Escaping
pub mod Symbols
