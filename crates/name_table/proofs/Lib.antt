-- What crates above cite.
pub mod Lookups
-- What the crate's own proofs cite.
mod NameTables
