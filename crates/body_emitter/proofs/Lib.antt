-- What crates above cite.
pub mod Insides
pub mod Puts
pub mod Stacks
-- What the crate's own proofs cite.
mod Common
