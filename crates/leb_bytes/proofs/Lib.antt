-- What crates above cite.
pub mod Existence
pub mod Numbers
pub mod Runs
pub mod ShortestLemmas
-- What the crate's own proofs cite.
mod Common
mod Fits
mod OneByte
mod Shifts
mod Windows
mod Worked
mod Written
