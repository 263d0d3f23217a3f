-- What crates above cite.
pub mod Clashes
pub mod Defined
pub mod Distinct
pub mod FirstOf
pub mod Onward
pub mod SameTypes
-- What the crate's own proofs cite.
mod Common
