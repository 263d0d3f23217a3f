-- What crates above cite.
pub mod Cutting
pub mod Joins
pub mod Single
pub mod Texts
-- What the crate's own proofs cite.
mod Common
mod Equals
mod Items
mod Written
