-- What crates above cite.
pub mod CallStatements
pub mod EachHelper
pub mod Functions
pub mod Shifts
pub mod Widths
-- What the crate's own proofs cite.
mod Common
mod Blocks
mod ByteLists
mod Bytes
mod Comparisons
mod Computed
mod Division
mod Extensions
mod Halving
mod Holdings
mod Memories
mod Numbers
mod Ones
mod Signs
mod Tables
mod Zeros
