-- What crates above cite.
pub mod Said
pub mod InputStops
pub mod Passing
pub mod Honest
-- What the crate's own proofs cite.
mod Common
mod Lists
mod Names
mod NumberedLines
mod ArgumentValues
