-- What crates above cite.
pub mod Tested
-- What the crate's own proofs cite.
mod Common
mod Suits
