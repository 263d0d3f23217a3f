-- What crates above cite.
pub mod Each
pub mod Texts
pub mod UnitLaws
pub mod JobLaws
-- What the crate's own proofs cite.
mod Common
mod Taken
mod Links
mod Within
mod Values
mod Calls
mod Lines
mod Tasks
