-- What crates above cite.
pub mod Given
pub mod Honest
pub mod InOrder
pub mod Loops
pub mod Passing
pub mod Standing
pub mod Stops
-- What the crate's own proofs cite.
mod Common
mod FilePassed
mod ReadPassed
