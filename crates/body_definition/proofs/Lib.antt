-- What crates above cite.
pub mod Heights
pub mod Peaks
pub mod Bounds
pub mod Zipped
pub mod TypedBodies
pub mod RulesOfLabels
-- What the crate's own proofs cite.
mod Common
