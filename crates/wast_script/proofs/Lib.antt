-- What crates above cite.
pub mod Readings
-- What the crate's own proofs cite.
mod Common
mod Gathered
mod Items
