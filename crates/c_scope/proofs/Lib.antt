-- What crates above cite.
pub mod NextItem
-- What the crate's own proofs cite.
mod Common
mod Steps
