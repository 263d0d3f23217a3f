-- What crates above cite.
pub mod TableTypes
-- What the crate's own proofs cite.
mod ClosedBodies
