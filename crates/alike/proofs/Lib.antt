-- What crates above cite.
pub mod LookUps
pub mod ObjectNames
pub mod Store
pub mod Placed
-- What the crate's own proofs cite.
mod Common
