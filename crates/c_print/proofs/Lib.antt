-- What crates above cite.
pub mod ItemsWritten
pub mod Spells
pub mod WorkedUnit
-- What the crate's own proofs cite.
mod Common
mod Gaps
mod Onto
mod PageText
mod ToFile
