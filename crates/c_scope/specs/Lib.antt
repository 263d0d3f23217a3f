pub mod Tables
pub mod Own
pub mod Signatures
pub mod FileItems
pub mod ScopeOf
