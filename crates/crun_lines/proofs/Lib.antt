-- What crates above cite.
pub mod ByNumber
pub mod Events
-- What the crate's own proofs cite.
mod Common
mod InOrder
mod Placing
mod RowBytes
