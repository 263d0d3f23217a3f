-- What crates above cite.
pub mod Fits
pub mod Typed
-- What the crate's own proofs cite.
mod Common
mod Longer
mod LongerRun
